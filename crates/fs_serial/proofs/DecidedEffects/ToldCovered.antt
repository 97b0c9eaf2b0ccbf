-- What a part is told of a delete or a rename that commits, where it is not the part of the home: one effect at most, and the leases
-- of the part cover it.
use Rattle.std.proofs.Common.{◌≡◌, ◌≤◌, Bool, true, false, ℕ, List, [], ◌∷◌, length, refl, sym, ap, ◌∙◌, subst, cond, inl, inr, arith}
use Rattle.std.specs.Prelude.{Some, None, is_some}
use Rattle.fs_ident.specs.In.{In}
use Rattle.fs_ident.specs.Ident.{same}
use Rattle.fs_ident.specs.declared.actor.Session.{Session}
use Rattle.fs_ident.specs.declared.actor.TxnNo.{TxnNo}
use Rattle.fs_ident.proofs.Same.{same_is, same_self}
use Rattle.fs_ident.proofs.Standing.{In-filter}
use Rattle.fs_field.specs.After.{changed_file}
use Rattle.fs_field.specs.Field.{file_of}
use Rattle.fs_field.specs.declared.asked.Need.{Need}
use Rattle.fs_field.specs.declared.asked.Need.TheVariants as need
use Rattle.fs_field.specs.declared.effect.Effect.{Effect}
use Rattle.fs_field.specs.declared.effect.Effect.TheVariants.{SetChild, SetParent, RemoveNode}
use Rattle.fs_field.specs.declared.field.Field.{Field}
use Rattle.fs_field.specs.declared.field.Field.TheVariants.{Life, Child, Names, Own}
use Rattle.fs_field.specs.declared.lease_kind.LeaseKind.{LeaseKind}
use Rattle.fs_field.specs.declared.lease_kind.LeaseKind.TheVariants.{Shared, Exclusive}
use Rattle.fs_field.specs.declared.row.Row.{Row}
use Rattle.fs_field.specs.declared.used.Use.{Use}
use Rattle.fs_model.specs.Asking.{home_of}
use Rattle.fs_model.specs.declared.op.Op.{Op}
use Rattle.fs_model.specs.declared.op.Op.TheVariants as op
use Rattle.fs_model.specs.declared.reply.Reply.{Reply}
use Rattle.fs_model.specs.declared.reply.Reply.TheVariants as reply
use Rattle.fs_parcel.proofs.Both.{passing}
use Rattle.fs_record.specs.LedEffects.{led_effects, move_effects, removal_effects}
use Rattle.fs_client.specs.Led.{file_known, is_led}
use Rattle.fs_txn.specs.Decided.{IsDecided}
use Rattle.fs_txn.specs.Deciding.{effects_on, reply_of}
use Rattle.fs_txn.specs.Guards.{is_enough}
use Rattle.fs_txn.specs.Parts.{uses_on}
use Rattle.fs_txn.proofs.Keys.{kept_in}
use Rattle.fs_view.specs.ViewLease as lease
use Rattle.fs_view.specs.Walk.{Given, Known, walk}
use Rattle.fs_serial.specs.Leading.{HasLockFor, HasUse, IsCoveredBy, IsPlaced}
use Rattle.fs_serial.specs.Pending.{IsCovered}
use Rattle.fs_serial.specs.Pending as pending
use Rattle.fs_serial.proofs.DecidedEffects.FileApart.{IsFileApart}
use Rattle.fs_serial.proofs.LedOperations.MovedItems.{HasMoved, moved_items, stands_first}
use Rattle.fs_serial.proofs.LedOperations.RemovedItems.{asks_names, asks_own}

-- ## How many

pub few_on : (o : Op) (file at : List ℕ) → same (home_of o) at ≡ false → IsFileApart o file
    → length (effects_on (led_effects o file (reply_of o)) at) ≤ 1
few_on (op.Delete dir name) file at off apart =
    subst (λ b. length (cond b (SetChild dir name None ∷ effects_on (RemoveNode file ∷ []) at) (effects_on (RemoveNode file ∷ []) at)) ≤ 1)
    (sym off) (one (same file at))
  where
    one : (b : Bool) → length (cond b (RemoveNode file ∷ []) []) ≤ 1
    one true = omega arith
    one false = omega arith
few_on (op.Rename sdir sname ddir dname) file at off apart =
    let rest = effects_on (SetChild sdir sname None ∷ SetParent file ddir dname ∷ []) at in
    subst (λ b. length (cond b (SetChild ddir dname (Some file) ∷ rest) rest) ≤ 1) (sym off) (two (same sdir at) (same file at) refl refl)
  where
    two : (a b : Bool) → same sdir at ≡ a → same file at ≡ b
        → length (cond a (SetChild sdir sname None ∷ cond b (SetParent file ddir dname ∷ []) [])
        (cond b (SetParent file ddir dname ∷ []) [])) ≤ 1
    two true true p q =
        let one : file ≡ sdir = same_is file at q ∙ sym (same_is sdir at p) in
        let wrong : true ≡ false = sym (same_self sdir) ∙ ap (λ x. same x sdir) (sym one) ∙ apart.1 in
        absurd (cc)
    two true false p q = omega arith
    two false true p q = omega arith
    two false false p q = omega arith
few_on o file at off apart = omega arith

-- ## Each

-- the effect is of a kind that is decided for others, those uses cover it, and the place that a file gets is locked
pub record IsCoveredEffect (uses : List Use) (rows : List Row) (txn : TxnNo) (by : Session) (e : Effect) : Type 0 where
  pub decided : IsDecided e
  pub covered : IsCoveredBy uses e
  pub placed : IsPlaced rows txn by e

-- the name to which the file moves is locked
abbrev pub HasNewName : List Row → TxnNo → Session → Op → Type 0
HasNewName rows txn by (op.Rename sdir sname ddir dname) = HasLockFor rows txn by (Child ddir dname) Exclusive
HasNewName rows txn by o = Unit {0}

pub enough_so : (had wanted : LeaseKind) → lease.is_enough had wanted ≡ true → is_enough wanted had ≡ true
enough_so Shared Shared h = refl
enough_so Shared Exclusive h = h
enough_so Exclusive Shared h = refl
enough_so Exclusive Exclusive h = refl

module _ (uses : List Use) (at : List ℕ) where
  use_at : (on : Field) (wanted : LeaseKind) → pending.HasUse uses on wanted → same (file_of on) at ≡ true
      → HasUse (uses_on at uses) on wanted
  use_at on wanted q t = record {
    used = q.used;
    among = kept_in (λ (u : Use). same (file_of u.field) at) q.used uses q.among (ap (λ f. same (file_of f) at) q.field ∙ t);
    field = q.field;
    enough = enough_so q.used.kind wanted q.enough;
  }

  module _ (rows : List Row) (txn : TxnNo) (by : Session) (known : Known) (given : Given) where
    abbrev Covers : Op → Type 0
    Covers o = (n : Need) → In n (walk known given o).items → IsCovered uses n

    abbrev Fits : Effect → Type 0
    Fits e = IsCoveredEffect (uses_on at uses) rows txn by e

    moved : (sdir sname ddir dname file : List ℕ) → same ddir at ≡ false
        → HasMoved known given (op.Rename sdir sname ddir dname) file → Covers (op.Rename sdir sname ddir dname)
        → HasNewName rows txn by (op.Rename sdir sname ddir dname)
        → (e : Effect) → In e (move_effects file sdir sname ddir dname) → same (changed_file e) at ≡ true → Fits e
    moved sdir sname ddir dname file off m c place e (inl q) t =
        let wrong : true ≡ false = sym t ∙ ap (λ x. same (changed_file x) at) q ∙ off in absurd (cc)
    moved sdir sname ddir dname file off m c place e (inr (inl q)) t =
        let here : same sdir at ≡ true = ap (λ x. same (changed_file x) at) (sym q) ∙ t in
        subst Fits (sym q) (record {
          decided = tt;
          covered = (
            use_at (Child sdir sname) Exclusive (c (need.Lease (Child sdir sname) Exclusive) m.child) here,
            use_at (Life sdir) Shared (c (need.Lease (Life sdir) Shared)
                (stands_first (need.Lease (Life sdir) Shared) (is_some (known (Life sdir) Shared)) _)) here,
          );
          placed = tt;
        })
    moved sdir sname ddir dname file off m c place e (inr (inr (inl q))) t =
        let here : same file at ≡ true = ap (λ x. same (changed_file x) at) (sym q) ∙ t in
        subst Fits (sym q) (record {
          decided = tt;
          covered = use_at (Life file) Shared (c (need.Lease (Life file) Shared) m.life) here;
          placed = place;
        })
    moved sdir sname ddir dname file off m c place e (inr (inr (inr z))) t = absurd z

    removed : (dir name file : List ℕ) → same dir at ≡ false → (walk known given (op.Delete dir name)).reply ≡ Some reply.Deleted
        → file_known known (op.Delete dir name) ≡ Some file
        → HasMoved known given (op.Delete dir name) file → Covers (op.Delete dir name)
        → (e : Effect) → In e (removal_effects file dir name) → same (changed_file e) at ≡ true → Fits e
    removed dir name file off w f m c e (inl q) t =
        let wrong : true ≡ false = sym t ∙ ap (λ x. same (changed_file x) at) q ∙ off in absurd (cc)
    removed dir name file off w f m c e (inr (inl q)) t =
        let here : same file at ≡ true = ap (λ x. same (changed_file x) at) (sym q) ∙ t in
        subst Fits (sym q) (record {
          decided = tt;
          covered = (
            use_at (Names file) Shared (c (need.Lease (Names file) Shared) (asks_names known given dir name file w f)) here,
            (
              use_at (Life file) Exclusive (c (need.Lease (Life file) Exclusive) m.life) here,
              use_at (Own file) Exclusive (c (need.Lease (Own file) Exclusive) (asks_own known given dir name file w f)) here,
            ),
          );
          placed = tt;
        })
    removed dir name file off w f m c e (inr (inr z)) t = absurd z

    pub each_covered : (o : Op) (r : Reply) (file : List ℕ) → same (home_of o) at ≡ false → is_led o r ≡ true
        → (walk known given o).reply ≡ Some r → file_known known o ≡ Some file → Covers o → HasNewName rows txn by o
        → (e : Effect) → In e (effects_on (led_effects o file (reply_of o)) at) → Fits e
    each_covered (op.Delete dir name) reply.Deleted file off l w f c place e i =
        let test = λ (x : Effect). same (changed_file x) at in
        let all = removal_effects file dir name in
        removed dir name file off w f (moved_items known given (op.Delete dir name) reply.Deleted file l w f) c e
        (In-filter test e all i) (passing test all e i)
    each_covered (op.Delete dir name) r file off l w f c place e i = absurd (cc)
    each_covered (op.Rename sdir sname ddir dname) reply.Renamed file off l w f c place e i =
        let test = λ (x : Effect). same (changed_file x) at in
        let all = move_effects file sdir sname ddir dname in
        moved sdir sname ddir dname file off (moved_items known given (op.Rename sdir sname ddir dname) reply.Renamed file l w f) c place e
        (In-filter test e all i) (passing test all e i)
    each_covered (op.Rename sdir sname ddir dname) r file off l w f c place e i = absurd (cc)
    each_covered o r file off l w f c place e i = absurd (cc)
