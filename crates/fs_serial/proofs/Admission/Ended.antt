-- A refused entry used a lease that had ended.
use Rattle.std.proofs.Common.{◌≡◌, ℕ, ◌+◌, ◌<◌, ◌≤◌, not, true, false, List, [], ◌∷◌, ◌++◌, length, length-append, append_assoc, cond, refl, sym, subst, inl, inr, arith}
use Rattle.std.proofs.lemmas.Bool.{ltb-true, ltb-false}
use Rattle.std.specs.Prelude.{◌≢◌, Option, Some, None, nat_lt}
use Rattle.fs_ident.specs.In.{In}
use Rattle.fs_ident.specs.declared.actor.Session.{Session}
use Rattle.fs_ident.proofs.Passing.{found}
use Rattle.fs_ident.proofs.Standing.{In-front}
use Rattle.fs_field.specs.declared.row.Row.{Row}
use Rattle.fs_field.specs.declared.used.Use.{Use}
use Rattle.fs_map.specs.Map.{longest}
use Rattle.fs_model.specs.Asking.{home_of}
use Rattle.fs_msg.specs.declared.client_msg.ClientMsg.TheVariants.{Ship}
use Rattle.fs_msg.specs.declared.entry.Entry.{Entry}
use Rattle.fs_msg.specs.declared.item.Item.{Item}
use Rattle.fs_msg.specs.declared.end.End.{End}
use Rattle.fs_server.specs.Server.{moved_at, strange}
use Rattle.fs_server.specs.Ships.{first_gone, has_row, item_of, ship_from, ship_step, shipped}
use Rattle.fs_server.specs.declared.state.Server.{Server}
use Rattle.fs_server.proofs.OneByOne.{ShipEnds, each_entry, misplaced, refused}
use Rattle.fs_serial.specs.Leases.{IsBacked}
use Rattle.fs_serial.specs.Parts.{SessionFits}
use Rattle.fs_serial.specs.Settled.{Settled}
use Rattle.fs_serial.specs.Sight.{Sight}
use Rattle.fs_serial.specs.Refusals.{IsFairEnd, IsFairNote}
use Rattle.fs_serial.specs.Steps.{HadEnded}
use Rattle.fs_serial.specs.World.{World, WorldHolds, settled_at, sight_in}
use Rattle.fs_serial.proofs.Admission.Refusing.{use_gone}
use Rattle.fs_serial.proofs.OneServer.ServerEvents.{all_plain}

pub ended : (skew greatest now : ℕ) (s : Sight) (by : Session) (d : Settled) (e : Entry) (u : Use) → SessionFits skew greatest s by d → In e d.log → first_gone s.rows by e.uses ≡ Some u → greatest ≤ now + skew → HadEnded s.rows now e u
ended skew greatest now s by d e u f i h within =
    let q = found (λ u. not (has_row s.rows by u)) e.uses u h in
    let gone : (r : Row) → In r s.rows → r.no ≢ u.no = use_gone skew greatest s by d e u f i q.0 q.1 in
    record {
      used = q.0;
      gone = gone;
      ended = elim (nat_lt now u.until) as (λ b. nat_lt now u.until ≡ b → u.until ≤ now) [
        | true ↦ λ t. let p : now < u.until = ltb-true now u.until t in let b : IsBacked s.rows u.no u.until = f.backed e i u q.0 (omega arith) in absurd (gone b.row b.stands b.number)
        | false ↦ λ t. ltb-false now u.until t
      ] refl;
    }

-- ## A log that is on its way

-- where one of its entries is refused
pub refused_ended : (greatest now : ℕ) (w : World) (by : Session) (entries : List Entry) → In (Ship entries) (w.ends by).up → WorldHolds greatest w → greatest ≤ now + w.server.skew → (e : Entry) (u : Use) → In e entries → first_gone w.server.rows by e.uses ≡ Some u → HadEnded w.server.rows now e u
refused_ended greatest now w by entries there h within e u i gone =
    let front = (h.exchanges by).front entries there in
    ended w.server.skew greatest now (sight_in w) by (settled_at by (w.ends by)) e u (h.all.fitting by) (subst (λ es. In e es) (sym front.log) (In-front e entries front.rest i)) gone within

fair_away : (rows : List Row) (by : Session) (now : ℕ) (entries : List Entry) (count : ℕ) (o : Option (List ℕ × ℕ)) → IsFairEnd rows by now entries count (moved_at o) []
fair_away rows by now entries count None = refl
fair_away rows by now entries count (Some x) = refl

-- these were admitted before it
fair_end : (by : Session) (before : List Entry) (e : Entry) (es : List Entry) (s : Server) (count : ℕ) → count ≡ length before → ((u : Use) → first_gone s.rows by e.uses ≡ Some u → HadEnded s.rows s.last e u) → (at : End) (gaps : List ℕ) → ShipEnds by e es s at gaps
    → IsFairEnd s.rows by s.last (before ++ e ∷ es) count at gaps
fair_end by before e es s count many over at gaps (refused u mine gone) = record { front = before; entry = e; behind = es; used = u; handed_in = refl; admitted = many; said = refl; held_back = refl; first = gone; had = over u gone }
fair_end by before e es s count many over at gaps (misplaced mine) = fair_away s.rows by s.last (before ++ e ∷ es) count (longest s.map (home_of e.op))

one_more : (before : List Entry) (e : Entry) (admitted : List Item) (i : Item) → length admitted ≡ length before → length (admitted ++ i ∷ []) ≡ length (before ++ e ∷ [])
one_more before e admitted i many = simp length-append (omega arith)

-- the server's rows and its clock stay while it reads the entries
abbrev AllHadEnded : Session → Server → List Entry → Type 0
AllHadEnded by s es = (e : Entry) (u : Use) → In e es → first_gone s.rows by e.uses ≡ Some u → HadEnded s.rows s.last e u

fair_from : (by : Session) (es : List Entry) (s : Server) (admitted : List Item) → AllHadEnded by s es → (before : List Entry) → length admitted ≡ length before
    → IsFairEnd s.rows by s.last (before ++ es) (length (ship_from by es s admitted).admitted) (ship_from by es s admitted).end (ship_from by es s admitted).gaps
fair_from by = each_entry by (λ es s admitted x. AllHadEnded by s es → (before : List Entry) → length admitted ≡ length before → IsFairEnd s.rows by s.last (before ++ es) (length x.admitted) x.end x.gaps)
    (λ s admitted over before many. refl)
    (λ e es s admitted x mine none p over before many.
    subst (λ (xs : List Entry). IsFairEnd s.rows by s.last xs (length x.admitted) x.end x.gaps) (append_assoc before (e ∷ []) es)
    (p (λ f u i. over f u (inr i)) (before ++ e ∷ []) (one_more before e admitted (item_of by e) many)))
    (λ e es s admitted at gaps why over before many. fair_end by before e es s (length admitted) many (λ u. over e u (inl refl)) at gaps why)

-- what the server notes of it is fair
pub fair_ship : (greatest : ℕ) (w : World) (by : Session) (entries : List Entry) → In (Ship entries) (w.ends by).up → greatest ≤ w.server.last + w.server.skew → WorldHolds greatest w → IsFairNote w.server.rows by w.server.last entries (ship_step by entries w.server).out.note
fair_ship greatest w by entries there within h =
    let fair = fair_from by entries w.server [] (λ e u i gone. refused_ended greatest w.server.last w by entries there h within e u i gone) [] refl in
    subst (λ b. IsFairNote w.server.rows by w.server.last entries (cond b (shipped by (ship_from by entries w.server [])) (strange w.server)).out.note) (sym (all_plain greatest w by entries there h)) fair
