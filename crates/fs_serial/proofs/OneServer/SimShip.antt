-- A log that is handed in comes to the same at the server that has all.
use Rattle.std.proofs.Common.{◌≡◌, ◌==◌, ◌&&◌, not, Bool, true, false, List, [], ◌∷◌, ◌++◌, refl, ap, cond, subst, sym, ◌∙◌, inl, inr, ℕ}
use Rattle.std.specs.List.{list_all}
use Rattle.fs_ident.specs.In.{In}
use Rattle.fs_ident.specs.declared.actor.Session.{Session}
use Rattle.fs_field.specs.declared.used.Use.{Use}
use Rattle.fs_field.specs.Field.{file_of, same_field}
use Rattle.fs_field.specs.Table.{has_no, is_lease, same_kind}
use Rattle.fs_moderows.proofs.FoundOnce.{find_same}
use Rattle.fs_model.specs.Asking.{home_of}
use Rattle.fs_msg.specs.declared.entry.Entry.{Entry}
use Rattle.fs_msg.specs.declared.item.Item.{Item}
use Rattle.fs_msg.specs.declared.end.End.{End}
use Rattle.fs_record.specs.Effects.{effects_of, tells_its_effects}
use Rattle.fs_server.specs.Server.{is_mine, strange}
use Rattle.fs_server.specs.Ships.{Shipping, first_gone, has_row, item_of, ship_from, ship_step, shipped, with_entry}
use Rattle.fs_server.specs.declared.state.Server.{Server}
use Rattle.fs_server.proofs.OneByOne.{ShipEnds, each_entry, entry_taken, misplaced, refused, ship_ends}
use Rattle.fs_serial.proofs.Places.PutRecords.{AreOn}
use Rattle.fs_serial.proofs.Places.OtherPlaces.{IsApart, IsSelf, Rest, effects_apart, effects_joined, itself, joined, off_file}
use Rattle.fs_serial.proofs.OneServer.Sim.{IsSim}
use Rattle.fs_serial.proofs.Places.Unseen.{any_past, other_field}

-- ## One entry

-- what the entry used is on files that are managed here, and so is what it changes
pub record IsEntryHere (s : Server) (by : Session) (e : Entry) : Type 0 where
  pub used : (u : Use) → In u e.uses → is_mine s (file_of u.field) ≡ true
  pub changed : AreOn (is_mine s) (effects_of by e.op e.reply)

-- where they are handed in at the right server
abbrev pub AreEntriesHere : Server → Session → List Entry → Type 0
AreEntriesHere s by entries = (e : Entry) → In e entries → is_mine s (home_of e.op) ≡ true → IsEntryHere s by e

third : (x b y : Bool) → b ≡ false → ((x && b) && y) ≡ false
third true b y h = ap (λ c. c && y) h
third false b y h = refl

row_same : (rest : Rest) (s : Server) (by : Session) (u : Use) → IsApart rest s → is_mine s (file_of u.field) ≡ true → has_row (joined rest s).rows by u ≡ has_row s.rows by u
row_same rest s by u a mine = any_past (is_lease u.no by u.field u.kind) rest.rows s.rows (λ r i. third (has_no u.no r && (r.session.0 == by.0)) (same_field r.field u.field) (same_kind r.kind u.kind) (other_field r.field u.field (off_file rest s a (file_of u.field) mine r i)))

gone_same : (rest : Rest) (s : Server) (by : Session) (uses : List Use) → IsApart rest s → ((u : Use) → In u uses → is_mine s (file_of u.field) ≡ true) → first_gone (joined rest s).rows by uses ≡ first_gone s.rows by uses
gone_same rest s by uses a mine = find_same (λ u. not (has_row (joined rest s).rows by u)) (λ u. not (has_row s.rows by u)) uses (λ u i. ap not (row_same rest s by u a (mine u i)))

entry_joined : (rest : Rest) (s : Server) (by : Session) (e : Entry) → IsApart rest s → IsEntryHere s by e → with_entry by e (joined rest s) ≡ joined rest (with_entry by e s)
entry_joined rest s by e a h = ap (λ records. let t : Server = record (joined rest s) { records = records } in t) (effects_joined rest s a (effects_of by e.op e.reply) h.changed)

entry_apart : (rest : Rest) (s : Server) (by : Session) (e : Entry) → IsApart rest s → IsEntryHere s by e → IsApart rest (with_entry by e s)
entry_apart rest s by e a h = record {
  rows = a.rows;
  records = a.records;
  own_rows = a.own_rows;
  own_records = effects_apart rest s a (effects_of by e.op e.reply) h.changed;
  ordered = a.ordered;
}

-- ## One after another

abbrev shipping_joined : Rest → Shipping → Shipping
shipping_joined rest x = record x { server = joined rest x.server }

pub record IsSameShipping (rest : Rest) (s : Server) (big small : Shipping) : Type 0 where
  pub same : big ≡ shipping_joined rest small
  pub apart : IsApart rest small.server
  pub self : IsSelf s small.server

-- the log ends there at the same entry, for the same reason
ends_same : (rest : Rest) (by : Session) (e : Entry) (es : List Entry) (s : Server) → (is_mine s (home_of e.op) ≡ true → IsEntryHere s by e) → IsApart rest s → (at : End) (gaps : List ℕ) → ShipEnds by e es s at gaps → ShipEnds by e es (joined rest s) at gaps
ends_same rest by e es s here a at gaps (refused u mine h) = refused u mine (gone_same rest s by e.uses a (here mine).used ∙ h)
ends_same rest by e es s here a at gaps (misplaced mine) = misplaced mine

shipped_same : (rest : Rest) (by : Session) (entries : List Entry) (s : Server) (admitted : List Item) → IsApart rest s → AreEntriesHere s by entries → IsSameShipping rest s (ship_from by entries (joined rest s) admitted) (ship_from by entries s admitted)
shipped_same rest by = each_entry by (λ entries s admitted x. IsApart rest s → AreEntriesHere s by entries → IsSameShipping rest s (ship_from by entries (joined rest s) admitted) x)
    (λ s admitted a h. record { same = refl; apart = a; self = itself s })
    (λ e es s admitted x mine none p a h.
    let here : IsEntryHere s by e = h e (inl refl) mine in
    let q : IsSameShipping rest (with_entry by e s) (ship_from by es (joined rest (with_entry by e s)) (admitted ++ item_of by e ∷ [])) x = p (entry_apart rest s by e a here) (λ f i m. let k = h f (inr i) m in record { used = k.used; changed = k.changed }) in
    record {
      same = entry_taken by e es (joined rest s) admitted mine (gone_same rest s by e.uses a here.used ∙ none) ∙ ap (λ t. ship_from by es t (admitted ++ item_of by e ∷ [])) (entry_joined rest s by e a here) ∙ q.same;
      apart = q.apart;
      self = record { me = q.self.me; skew = q.self.skew; last = q.self.last; map = q.self.map };
    })
    (λ e es s admitted at gaps why a h. record { same = ship_ends by e es (joined rest s) admitted at gaps (ends_same rest by e es s (h e (inl refl)) a at gaps why); apart = a; self = itself s })

pub ship_sim : (rest : Rest) (by : Session) (entries : List Entry) (s : Server) → IsApart rest s → AreEntriesHere s by entries → IsSim rest s (ship_step by entries (joined rest s)) (ship_step by entries s)
ship_sim rest by entries s a h =
    let x : Shipping = ship_from by entries s [] in
    let q : IsSameShipping rest s (ship_from by entries (joined rest s) []) x = shipped_same rest by entries s [] a h in
    elim (list_all (λ (e : Entry). tells_its_effects e.op) entries) as (λ b. IsSim rest s (cond b (shipped by (ship_from by entries (joined rest s) [])) (strange (joined rest s))) (cond b (shipped by x) (strange s))) [
      | true ↦ subst (λ b. IsSim rest s (shipped by b) (shipped by x)) (sym q.same) (record { out = refl; server = refl; apart = q.apart; self = q.self; quiet = λ k. refl })
      | false ↦ record { out = refl; server = refl; apart = a; self = itself s; quiet = λ k. refl }
    ]
