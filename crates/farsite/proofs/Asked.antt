-- What a schedule asks for is what callers may ask for, and may happen to its world.
use Rattle.std.proofs.Common.{◌≡◌, ◌+◌, ◌<◌, true, List, [], ◌∷◌, refl, ℕ, drop, get_or, length, subst, sym, arith}
use Rattle.std.proofs.lemmas.List.{drop_more}
use Rattle.std.specs.Prelude.{◌≤◌, nat_lt}
use Rattle.std.proofs.lemmas.Bool.Decides.{nat_tests}
use Rattle.fs_ident.proofs.Booleans.{joined}
use Rattle.fs_ident.specs.declared.actor.Peer.TheVariants.{Client, Server}
use Rattle.std.specs.List.{AllByRecursion}
use Rattle.fs_ident.specs.declared.limits.TheConstants.{LATEST}
use Rattle.fs_schedule.specs.declared.event.Event.{Event}
use Rattle.fs_schedule.specs.declared.event.Head.{Head}
use Rattle.fs_schedule.specs.declared.event.Head.TheVariants as head
use Rattle.fs_schedule.specs.declared.event.What.{What}
use Rattle.fs_schedule.specs.declared.event.What.TheVariants.{Join, Do, Tell, Turn, Recall, Move}
use Rattle.fs_schedule.specs.Spelling.{FitsEvent, FitsWhat}
use Rattle.fs_world.specs.World.{AllMayHappen, FitsServed, first_world, may_happen, step}
use Rattle.fs_world.specs.declared.form.Form.{Form}
use Rattle.fs_world.specs.declared.form.Form.TheVariants.{Direct, Served}
use Rattle.fs_world.specs.Served.{step_of}
use Rattle.fs_world.proofs.Fitting.{what_fits}
use Rattle.fs_world.proofs.StayingServers.{servers_stay}
use Rattle.farsite.specs.Fitting.{MayHappen}

below : (k n : ℕ) → k < n → nat_lt k n ≡ true
below k n h = grind (arith, nat_tests)

what_asked : (h : Head) (w : What) → FitsWhat h w → may_happen h w ≡ true
what_asked head.Direct (Join s) f = refl
what_asked head.Direct (Do s o) f = f.0
what_asked head.Direct (Tell number) f = refl
what_asked head.Direct (Turn who) f = refl
what_asked head.Direct (Recall k field) f = refl
what_asked head.Direct (Move k prefix to) f = refl
what_asked (head.Servers n k t) (Join s) f = refl
what_asked (head.Servers n k t) (Do s o) f = f.0
what_asked (head.Servers n k t) (Tell number) f = refl
what_asked (head.Servers n k t) (Turn (Client s)) f = refl
what_asked (head.Servers n k t) (Turn (Server j)) f = below j n f.0
what_asked (head.Servers n k t) (Recall j field) f = below j n f.0.0
what_asked (head.Servers n k t) (Move j prefix to) f = joined _ _ (below j n f.0.0) (below to n f.2.0)

pub all_asked : (h : Head) (es : List Event) → AllByRecursion (FitsEvent h) es → AllMayHappen h es
all_asked h [] f = tt
all_asked h (e ∷ es) f = (what_asked h e.what f.0.what, all_asked h es f.1)

pub all_fit : (h : Head) (es : List Event) → AllByRecursion (FitsEvent h) es → MayHappen (first_world h) es
all_fit h [] f = tt
all_fit h (e ∷ es) f = ((f.0.reading, what_fits h e f.0), all_fit h es f.1)

as_many : (n m : ℕ) (es : List Event) → n ≡ m → AllByRecursion (λ (e : Event). (e.reading ≤ LATEST) × FitsServed n e.what) es → AllByRecursion (λ (e : Event). (e.reading ≤ LATEST) × FitsServed m e.what) es
as_many n m es same f = subst (λ servers. AllByRecursion (λ (e : Event). (e.reading ≤ LATEST) × FitsServed servers e.what) es) same f

-- as many servers are there after an event
fits_on : (w : Form) (x : Event) (es : List Event) → MayHappen w es → MayHappen (step w x).world es
fits_on (Direct w) x es f = f
fits_on (Served w) x es f = as_many (length w.servers) (length (step_of w x.reading x.what).world.servers) es (sym (servers_stay w x.reading x.what)) f

-- what fits a world fits it after an event
pub fits_further : (w after : Form) (es : List Event) (i : ℕ) (e : Event) → i < length es → after ≡ (step w e).world → MayHappen w (drop i es) → MayHappen after (drop (i + 1) es)
fits_further w after es i e lt eq f =
    let both : MayHappen w (get_or es i e ∷ drop (i + 1) es) = subst (λ (xs : List Event). MayHappen w xs) (drop_more es i e lt) f in
    subst (λ (v : Form). MayHappen v (drop (i + 1) es)) (sym eq) (fits_on w e (drop (i + 1) es) both.1)
