-- What a schedule asks for may happen to its first world, and to the worlds after it.
use Rattle.std.proofs.Common.{◌≡◌, ℕ, zero, suc, ◌<◌, ◌≤◌, List, [], ◌∷◌, length, get_or, sym, subst, arith}
use Rattle.std.specs.Prelude.{IfSome}
use Rattle.std.specs.List.{AllByRecursion}
use Rattle.fs_ident.specs.declared.actor.Peer.TheVariants.{Client, Server}
use Rattle.fs_ident.specs.declared.actor.Session.{Session}
use Rattle.fs_ident.specs.declared.limits.TheConstants.{SESSIONS}
use Rattle.fs_schedule.specs.declared.event.Event.{Event}
use Rattle.fs_schedule.specs.declared.event.Head.{Head}
use Rattle.fs_schedule.specs.declared.event.Head.TheVariants as head
use Rattle.fs_schedule.specs.declared.event.What.{What}
use Rattle.fs_schedule.specs.declared.event.What.TheVariants.{Join, Do, Tell, Turn, Recall, Move}
use Rattle.fs_schedule.specs.Spelling.{FitsEvent, FitsWhat, session_in}
use Rattle.fs_world.specs.World.{FitsServed, FitsWorld, first_world, step}
use Rattle.fs_world.specs.declared.form.Form.{Form}
use Rattle.fs_world.specs.declared.form.Form.TheVariants.{Direct, Served}
use Rattle.fs_world.proofs.StayingServers.{first_count, servers_stay}

served_fits : (n k t : ℕ) (w : What) → IfSome (session_in w) (λ (s : Session). (1 ≤ s.0) × (s.0 ≤ SESSIONS))
    → FitsWhat (head.Servers n k t) w → FitsServed n w
served_fits n k t (Join s) session f = session
served_fits n k t (Do s o) session f = f.0
served_fits n k t (Tell number) session f = tt
served_fits n k t (Turn (Client s)) session f = tt
served_fits n k t (Turn (Server j)) session f = f.0
served_fits n k t (Recall j field) session f = f.0.0
served_fits n k t (Move j prefix to) session f = (f.0.0, f.2.0)

-- each event of a schedule may happen to its first world
pub what_fits : (h : Head) (e : Event) → FitsEvent h e → FitsWorld (first_world h) e.what
what_fits head.Direct e f = tt
what_fits (head.Servers n k t) e f =
    subst (λ servers. FitsServed servers e.what) (sym (first_count n k t)) (served_fits n k t e.what f.session f.what)

-- what may happen may happen after another event
pub fits_after : (w : Form) (x : Event) (what : What) → FitsWorld w what → FitsWorld (step w x).world what
fits_after (Direct w) x what f = tt
fits_after (Served w) x what f = subst (λ servers. FitsServed servers what) (sym (servers_stay w x.reading x.what)) f

-- what all of them are the one at a place is
pub each_fits : (h : Head) (es : List Event) (i : ℕ) (e : Event) → AllByRecursion (FitsEvent h) es → i < length es → e ≡ get_or es i e
    → FitsEvent h e
each_fits h [] i e f within is = absurd (omega arith)
each_fits h (x ∷ es) zero e f within is = subst (FitsEvent h) (sym is) f.0
each_fits h (x ∷ es) (suc i) e f within is = each_fits h es i e f.1 (omega arith) is
