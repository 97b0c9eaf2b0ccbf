-- What a delete that is led asks of the file that goes: its names, and what its session has open of it.
use Rattle.std.proofs.Common.{◌≡◌, ℕ, List, [], ◌∷◌, sym, subst}
use Rattle.std.specs.Prelude.{Option, Some, None, is_some}
use Rattle.fs_ident.specs.In.{In}
use Rattle.fs_field.specs.declared.asked.Need.{Need}
use Rattle.fs_field.specs.declared.asked.Need.TheVariants as need
use Rattle.fs_field.specs.declared.field.Field.TheVariants.{Child, Life, Names, Own}
use Rattle.fs_field.specs.declared.lease_kind.LeaseKind.TheVariants.{Shared, Exclusive}
use Rattle.fs_model.specs.declared.op.Op.TheVariants as op
use Rattle.fs_model.specs.declared.reply.Reply.{Reply}
use Rattle.fs_model.specs.declared.reply.Reply.TheVariants as reply
use Rattle.fs_client.specs.Led.{file_known}
use Rattle.fs_view.specs.Script.{Script, ask_delete, ask_deleted, ask_empty, ask_unused, no_dir, not_empty, unless}
use Rattle.fs_view.specs.Told.{child_told, life_told, names_told}
use Rattle.fs_view.specs.Walk.{Given, Known, walk, walk_along}
use Rattle.fs_serial.proofs.LedOperations.MovedItems.{child_is, no_dir_else, past, stands_behind, stands_first}
use Rattle.fs_serial.proofs.Replies.Naming.{reply_behind}

not_empty_else : (o : Option (List (List ℕ))) (x : Reply) → not_empty o ≡ Some x → x ≡ reply.Deleted → ⊥
not_empty_else None x h e = absurd (cc)
not_empty_else (Some []) x h e = absurd (cc)
not_empty_else (Some (n ∷ ns)) x h e = absurd (cc)

module _ (known : Known) (given : Given) (dir name file : List ℕ)
    (gets : (walk known given (op.Delete dir name)).reply ≡ Some reply.Deleted)
    (named : file_known known (op.Delete dir name) ≡ Some file) where
  abbrev items : Script → List Need
  items s = (walk_along known given s).items

  abbrev Comes : Script → Type 0
  Comes s = (walk_along known given s).reply ≡ Some reply.Deleted

  abbrev home : Need
  home = need.Lease (Life dir) Shared

  abbrev child : Need
  child = need.Lease (Child dir name) Exclusive

  abbrev life : Need
  life = need.Lease (Life file) Exclusive

  abbrev names : Need
  names = need.Lease (Names file) Shared

  abbrev own : Need
  own = need.Lease (Own file) Exclusive

  -- ## How far the walk comes

  past_home : (no_dir (life_told (known (Life dir) Shared)) ≡ None) × Comes (ask_delete dir name)
  past_home =
      let o = no_dir (life_told (known (Life dir) Shared)) in
      past known given o (ask_delete dir name) reply.Deleted
      (λ x. no_dir_else known given (life_told (known (Life dir) Shared)) x reply.Deleted (λ e. cc) (λ e. cc))
      (reply_behind home (is_some (known (Life dir) Shared)) (walk_along known given (unless o (ask_delete dir name))) reply.Deleted gets)

  is : child_told (known (Child dir name) Exclusive) ≡ Some (Some file)
  is = child_is (known (Child dir name) Exclusive) file named

  past_child : Comes (ask_deleted (Some (Some file)))
  past_child =
      let v = known (Child dir name) Exclusive in
      subst (λ x. Comes (ask_deleted x)) is
      (reply_behind child (is_some v) (walk_along known given (ask_deleted (child_told v))) reply.Deleted past_home.1)

  past_life : Comes (ask_empty file)
  past_life = reply_behind life (is_some (known (Life file) Exclusive)) (walk_along known given (ask_empty file)) reply.Deleted past_child

  past_names : (not_empty (names_told (known (Names file) Shared)) ≡ None) × Comes (ask_unused file)
  past_names =
      let v = known (Names file) Shared in
      let o = not_empty (names_told v) in
      past known given o (ask_unused file) reply.Deleted (not_empty_else (names_told v))
      (reply_behind names (is_some v) (walk_along known given (unless o (ask_unused file))) reply.Deleted past_life)

  -- ## What it asks for

  -- whatever is asked of the file is asked by the delete
  asked : (x : Need) → In x (items (ask_empty file)) → In x (walk known given (op.Delete dir name)).items
  asked x i =
      let v = known (Child dir name) Exclusive in
      let o = no_dir (life_told (known (Life dir) Shared)) in
      let in_deleted : In x (items (ask_deleted (Some (Some file)))) =
      stands_behind life x (is_some (known (Life file) Exclusive)) (walk_along known given (ask_empty file)) i in
      let in_delete : In x (items (ask_delete dir name)) =
      stands_behind child x (is_some v) (walk_along known given (ask_deleted (child_told v)))
      (subst (λ c. In x (items (ask_deleted c))) (sym is) in_deleted) in
      stands_behind home x (is_some (known (Life dir) Shared)) (walk_along known given (unless o (ask_delete dir name)))
      (subst (λ q. In x (items (unless q (ask_delete dir name)))) (sym past_home.0) in_delete)

  pub asks_names : In names (walk known given (op.Delete dir name)).items
  asks_names = asked names (stands_first names (is_some (known (Names file) Shared)) _)

  pub asks_own : In own (walk known given (op.Delete dir name)).items
  asks_own =
      let v = known (Names file) Shared in
      asked own (stands_behind names own (is_some v) (walk_along known given (unless (not_empty (names_told v)) (ask_unused file)))
      (subst (λ q. In own (items (unless q (ask_unused file)))) (sym past_names.0)
      (stands_first own (is_some (known (Own file) Exclusive)) _)))
