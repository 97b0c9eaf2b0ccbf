-- The server admits an entry: what another session relies on.
use Rattle.std.proofs.Common.{◌≡◌, ℕ, ◌==◌, ◌&&◌, not, Bool, true, false, List, [], ◌∷◌, ◌++◌, refl, sym, ap, ◌∙◌, subst, inr, arith}
use Rattle.std.specs.Cmp.{nat_eq_equiv}
use Rattle.std.specs.List.{list_any}
use Rattle.fs_ident.specs.In.{In}
use Rattle.fs_ident.specs.declared.actor.Session.{Session}
use Rattle.fs_ident.specs.declared.kind.Kind.TheVariants.{Dir}
use Rattle.fs_field.specs.declared.asked.Need.{Need}
use Rattle.fs_field.specs.declared.asked.Need.TheVariants as need
use Rattle.fs_field.specs.declared.lease_kind.LeaseKind.{LeaseKind}
use Rattle.fs_field.specs.declared.lease_kind.LeaseKind.TheVariants.{Shared, Exclusive}
use Rattle.fs_field.specs.declared.row.Row.{Row}
use Rattle.fs_field.specs.declared.used.Use.{Use}
use Rattle.fs_field.specs.Conflict.{meets, plain_conflict}
use Rattle.fs_moderows.proofs.Witnesses.{In_none}
use Rattle.fs_msg.specs.declared.entry.Entry.{Entry}
use Rattle.fs_msg.specs.declared.item.Item.{Item}
use Rattle.fs_record.specs.Records.{nodes_of}
use Rattle.fs_record.specs.ValueOf.{value_of, is_other}
use Rattle.fs_server.specs.Ships.{item_of, with_entry}
use Rattle.fs_server.specs.declared.state.Server.{Server}
use Rattle.fs_view.specs.ViewLease.{is_enough, makes}
use Rattle.fs_view.specs.Laws.{item_meets}
use Rattle.fs_view.specs.Walk.{walk, known_in, always}
use Rattle.fs_view.proofs.Unseen.{others_values}
use Rattle.fs_serial.specs.Fresh.{IsMade}
use Rattle.fs_serial.specs.Parts.{ServersHold, ServersFit}
use Rattle.fs_serial.specs.Pending.{AllStand, Stands, IsAnswer, IsCovered, IsEntry}
use Rattle.fs_serial.specs.Relies.{Relies}
use Rattle.fs_serial.specs.Rows.{NoRowsConflict, PromisesKept}
use Rattle.fs_serial.specs.Settled.{effects_in}
use Rattle.fs_serial.specs.Sight.{Counts, sight_of}
use Rattle.fs_serial.proofs.Admission.Answered.{answered, covered_there}
use Rattle.fs_serial.proofs.Lists.Journals.{items-other, made_one}
use Rattle.fs_serial.proofs.OtherSessions.Gone.{gone_then, made_more}
use Rattle.fs_serial.proofs.Grants.Promises.{other_stays}

exclusive : (k : LeaseKind) → is_enough k Exclusive ≡ true → k ≡ Exclusive
exclusive Shared h = absurd (cc)
exclusive Exclusive h = refl

apart : (b m : Bool) → b ≡ false → (not b && m) ≡ false → m ≡ false
apart true m e h = absurd (cc)
apart false m e h = h

-- a row of another session does not meet a row that stands under an exclusive use
not_met : (rows : List Row) (by : Session) (r : Row) (u : Use) → NoRowsConflict rows → In r rows → (by.0 == r.session.0) ≡ false → Stands rows by u → u.kind ≡ Exclusive → meets r.field r.kind u.field Exclusive ≡ false
not_met rows by r u free i other s x =
    let q : plain_conflict s.row r ≡ false = free s.row r s.stands i in
    let p : plain_conflict r s.row ≡ false = free r s.row i s.stands in
    ap (λ k. meets r.field r.kind u.field k) (sym x) ∙ ap (λ k. meets r.field r.kind u.field k) (sym s.kind) ∙ ap (λ g. meets r.field r.kind g s.row.kind) (sym s.field)
    ∙ apart (r.session.0 == s.row.session.0) (meets r.field r.kind s.row.field s.row.kind) (ap (λ (y : Session). r.session.0 == y.0) s.session ∙ turned r.session by other) p
  where
    turned : (a b : Session) → (b.0 == a.0) ≡ false → (a.0 == b.0) ≡ false
    turned a b h = nat_eq_equiv.symm a.0 b.0 ∙ h

-- the entry meets no row of another session
pub no_item_meets : (rows : List Row) (by : Session) (r : Row) (uses : List Use) (n : Need) → NoRowsConflict rows → In r rows → (by.0 == r.session.0) ≡ false → AllStand rows by uses → IsCovered uses n → item_meets r.field r.kind n ≡ false
no_item_meets rows by r uses (need.Lease g Shared) free i other stand c = refl
no_item_meets rows by r uses (need.Lease g Exclusive) free i other stand c = ap (λ x. meets r.field r.kind x Exclusive) (sym c.field) ∙ not_met rows by r c.used free i other (stand c.used c.among) (exclusive c.used.kind c.enough)
no_item_meets rows by r uses (need.Fresh dir) free i other stand c = refl

module _ (o : Counts) (skew greatest : ℕ) (s : Server) (journal : List Item) (by y : Session) (e : Entry) (another : (by.0 == y.0) ≡ false)
    (stand : AllStand s.rows by e.uses) (anew : (file : List ℕ) → IsMade journal file → list_any (makes file) (effects_in by e) ≡ false) (plain : IsEntry e) (right : IsAnswer (value_of s.records by) e)
    (sh : ServersHold (sight_of o s journal)) (sf : ServersFit (sight_of o s journal)) (promises : PromisesKept (with_entry by e s).records s.rows) where
  -- on a field that does not tell of others, since it meets no use of the entry
  same_plain : (r : Row) → In r s.rows → r.session ≡ y → is_other r.field ≡ false → value_of (with_entry by e s).records y r.field ≡ value_of s.records y r.field
  same_plain r i own plainly =
      others_values s.records by y e.op e.reply r.field r.kind sf.sound.records plain.plain (answered s.records by e plain right) another plainly
      (In_none (item_meets r.field r.kind) (walk (known_in (nodes_of s.records) by) always e.op).items (λ n j.
      no_item_meets s.rows by r e.uses n sh.apart i (ap (λ (x : Session). by.0 == x.0) own ∙ another) stand (covered_there s.records by e plain right n j)))

  -- nothing that a row of the other session is on changes for it: what its others have of a mode is what it was promised
  same_value : (r : Row) → In r s.rows → r.session ≡ y → value_of (with_entry by e s).records y r.field ≡ value_of s.records y r.field
  same_value r i own = elim (is_other r.field) as (λ b. is_other r.field ≡ b → value_of (with_entry by e s).records y r.field ≡ value_of s.records y r.field) [
    | true ↦ λ t. subst (λ x. value_of (with_entry by e s).records x r.field ≡ value_of s.records x r.field) own (other_stays s.records (with_entry by e s).records s.rows sf.shaped sh.promises promises r i t)
    | false ↦ same_plain r i own
  ] refl

  pub others_rely : Relies skew greatest y (sight_of o s journal) (sight_of o (with_entry by e s) (journal ++ item_of by e ∷ []))
  others_rely = record {
    given = λ k. omega arith;
    older = λ r i old. record { row = r; stood = i; number = refl; session = refl; field = refl; kind = refl };
    kept = λ r i own live. record { row = r; stands = i; number = refl; lasts = omega arith };
    values = λ r i old own. inr (same_value r i own);
    dirs = λ file was. made_one journal (item_of by e) file Dir was;
    made = λ file was. made_more journal (item_of by e) file was;
    gone = λ file was none. gone_then s.records by e plain right sf.sound file (anew file was) none;
    items = items-other y journal (item_of by e) another;
  }
