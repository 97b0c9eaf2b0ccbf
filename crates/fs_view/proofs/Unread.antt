-- No operation asks for size and stamp of a file that is gone, and it stays gone.
use Rattle.std.proofs.Common.{◌≡◌, ◌⊎◌, ℕ, ◌==◌, ◌&&◌, ◌||◌, Bool, true, false, List, [], ◌∷◌, refl, sym, ap, ◌∙◌, subst, inl, inr, cond}
use Rattle.std.specs.Prelude.{Option, Some, None, is_some}
use Rattle.std.specs.List.{list_any}
use Rattle.std.specs.Cmp.Lexicographic.{nat_list_eq_equiv}
use Rattle.std.specs.FinMap.{get}
use Rattle.fs_ident.specs.Ident.{same}
use Rattle.fs_ident.specs.In.{In}
use Rattle.fs_ident.specs.declared.actor.Session.{Session}
use Rattle.fs_ident.specs.declared.kind.Kind.{Kind}
use Rattle.fs_ident.proofs.Booleans.{neither}
use Rattle.fs_ident.proofs.Same.{same_is}
use Rattle.fs_modes.specs.declared.modes.Mode.{Mode}
use Rattle.fs_modes.specs.declared.modes.Mode.TheVariants.{DenyD}
use Rattle.fs_modes.specs.declared.modes.Modes.{Modes}
use Rattle.fs_modes.specs.Modes.{opposing}
use Rattle.fs_field.specs.After.{Handles, with_handle}
use Rattle.fs_field.specs.declared.asked.Need.TheVariants.{Fresh, Lease}
use Rattle.fs_field.specs.declared.field.Field.{Field}
use Rattle.fs_field.specs.declared.field.Field.TheVariants.{Life, Child, Names, Own, Other}
use Rattle.fs_field.specs.declared.lease_kind.LeaseKind.{LeaseKind}
use Rattle.fs_field.specs.declared.lease_kind.LeaseKind.TheVariants.{Shared}
use Rattle.fs_field.specs.declared.value.Value.{Value}
use Rattle.fs_field.specs.declared.value.Value.TheVariants as value
use Rattle.fs_model.specs.declared.op.Op.{Op}
use Rattle.fs_model.specs.declared.op.Op.TheVariants as op
use Rattle.fs_model.specs.declared.reply.Reply.{Reply}
use Rattle.fs_model.specs.declared.reply.Reply.TheVariants as reply
use Rattle.fs_record.specs.Effects.{effects_of}
use Rattle.fs_record.specs.Records.{RecordMap, node_of}
use Rattle.fs_record.specs.ValueOf.{value_at, value_of}
use Rattle.fs_view.specs.Gone.{AlikeButGone, GoneIsUnread, GoneStays, IsGone, IsUnread, known_with}
use Rattle.fs_view.specs.ViewLease.{makes}
use Rattle.fs_view.specs.Script.{Script, accesses, answer, ask, ask_child, ask_delete, ask_deleted, ask_info, ask_movable, ask_moved, ask_names, ask_new_place, ask_old_place, ask_other_dir, ask_others, ask_own, ask_place, ask_rename, ask_selves, ask_size, ask_unless_there, ask_unused, close_with, denied, give, in_use, modes_off, modes_on, new_file, no_dir, no_dir_to, no_file, no_name, no_set, not_empty, open_free, open_with, script_of, taken_name, unless}
use Rattle.fs_view.specs.Told.{child_told, is_other_told, life_told, modes_listed, modes_under, names_told, own_conflicts, own_told}
use Rattle.fs_view.specs.View.{value_after_all}
use Rattle.fs_view.specs.Walk.{Given, Known, always, walk, walk_along}
use Rattle.fs_view.proofs.Walks.{behind_alike, first_behind, items_behind}

-- ## Questions that do not ask for it

-- none of the questions, as these values answer them, is for what is of no matter
abbrev pub IsUnasked : (Field → Value) → Script → Type 0
IsUnasked v (answer r) = Unit {0}
IsUnasked v (ask field kind go) = (IsUnread v field → ⊥) × IsUnasked v (go (Some (v field)))
IsUnasked v (give dir go) = IsUnasked v go

module _ (v : Field → Value) where
  unless_known : (o : Option Reply) (go : Script) → (o ≡ None → IsUnasked v go) → IsUnasked v (unless o go)
  unless_known None go h = h refl
  unless_known (Some r) go h = tt

  either : (b : Bool) (x y : Script) → IsUnasked v x → IsUnasked v y → IsUnasked v (cond b x y)
  either true x y p q = p
  either false x y p q = q

  of_others : (r : Reply) (ms : List Mode) (file : List ℕ) (found : Bool) (go : Script) → IsUnasked v go → IsUnasked v (ask_others r ms file found go)
  of_others r [] file true go h = tt
  of_others r [] file false go h = h
  of_others r (m ∷ ms) file found go h = (λ e. e, of_others r ms file (found || is_other_told (Some (v (Other file m)))) go h)

  of_selves : (ms : List Mode) (file : List ℕ) (r : Reply) → IsUnasked v (ask_selves ms file r)
  of_selves [] file r = tt
  of_selves (m ∷ ms) file r = (λ e. e, of_selves ms file r)

  -- ### What asks for size and stamp tests first whether the file is there

  dead : (file : List ℕ) → IsGone file v → no_file (life_told (Some (v (Life file)))) ≡ None → ⊥
  dead file gone h = let q : Some reply.Gone ≡ None = sym (ap (λ x. no_file (life_told (Some x))) gone.life) ∙ h in absurd (cc)

  closed : (file : List ℕ) (h : ℕ) → IsGone file v → no_set (own_told (Some (v (Own file)))) h ≡ None → ⊥
  closed file h gone n = let q : Some reply.NoHandle ≡ None = sym (ap (λ x. no_set (own_told (Some x)) h) gone.own) ∙ n in absurd (cc)

  of_info : (file : List ℕ) → IsUnasked v (unless (no_file (life_told (Some (v (Life file))))) (ask_info file))
  of_info file = unless_known (no_file (life_told (Some (v (Life file))))) (ask_info file) (λ n. ((λ gone. dead file gone n), tt))

  of_size : (file : List ℕ) (h : ℕ) → IsUnasked v (unless (no_set (own_told (Some (v (Own file)))) h) (ask_size file))
  of_size file h = unless_known (no_set (own_told (Some (v (Own file)))) h) (ask_size file) (λ n. ((λ gone. closed file h gone n), tt))

  -- ### All others

  of_new : (dir : List ℕ) (id : Option (List ℕ)) → IsUnasked v (new_file dir id)
  of_new dir None = tt
  of_new dir (Some id) = (λ e. e, tt)

  of_free : (b : Bool) (own : Handles) (file : List ℕ) (modes : Modes) → IsUnasked v (open_free b own file modes)
  of_free true own file modes = tt
  of_free false own file modes = of_others reply.Sharing (modes_listed (opposing modes)) file false (ask_selves (modes_listed (modes_on own modes)) file reply.Opened) (of_selves (modes_listed (modes_on own modes)) file reply.Opened)

  of_open : (own : Option Handles) (file : List ℕ) (h : ℕ) (modes : Modes) → IsUnasked v (open_with own file h modes)
  of_open None file h modes = of_others reply.Sharing (modes_listed (opposing modes)) file false (answer reply.Opened) tt
  of_open (Some own) file h modes = either (is_some (modes_under own h)) (answer reply.HandleUsed) (open_free (own_conflicts own modes) own file modes) tt (of_free (own_conflicts own modes) own file modes)

  of_close : (own : Option Handles) (file : List ℕ) (h : ℕ) → IsUnasked v (close_with own file h)
  of_close None file h = tt
  of_close (Some own) file h = either (is_some (modes_under own h)) (ask_selves (modes_listed (modes_off own h)) file reply.Closed) (answer reply.NoHandle) (of_selves (modes_listed (modes_off own h)) file reply.Closed) tt

  of_deleted : (child : Option (Option (List ℕ))) → IsUnasked v (ask_deleted child)
  of_deleted None = tt
  of_deleted (Some None) = tt
  of_deleted (Some (Some file)) = (
    λ e. e,
    (
      λ e. e,
      unless_known (not_empty (names_told (Some (v (Names file))))) (ask_unused file)
          (λ n. (λ e. e, unless_known (in_use (own_told (Some (v (Own file))))) (ask_others reply.InUse accesses file false (answer reply.Deleted)) (λ m. of_others reply.InUse accesses file false (answer reply.Deleted) tt))),
    ),
  )

  of_movable : (file : List ℕ) → IsUnasked v (ask_movable file)
  of_movable file = (λ e. e, unless_known (denied (own_told (Some (v (Own file))))) (ask_others reply.Sharing (DenyD ∷ []) file false (answer reply.Renamed)) (λ n. of_others reply.Sharing (DenyD ∷ []) file false (answer reply.Renamed) tt))

  of_moved : (sdir ddir : List ℕ) (moved : Option (Option (List ℕ))) → IsUnasked v (ask_moved sdir ddir moved)
  of_moved sdir ddir None = tt
  of_moved sdir ddir (Some None) = tt
  of_moved sdir ddir (Some (Some file)) = either (same file sdir || same file ddir) (ask_movable file) (ask (Life file) Shared (λ life. ask_movable file)) (of_movable file) (λ e. e, of_movable file)

  of_place : (sdir sname ddir dname : List ℕ) (moved : Option (Option (List ℕ))) → IsUnasked v (ask_unless_there sdir sname ddir dname moved)
  of_place sdir sname ddir dname moved = either (same sdir ddir && same sname dname) (answer reply.Renamed) (ask_new_place sdir ddir dname moved) tt
      (λ e. e, unless_known (taken_name (child_told (Some (v (Child ddir dname))))) (ask_moved sdir ddir moved) (λ n. of_moved sdir ddir moved))

  of_old : (sdir sname ddir dname : List ℕ) → IsUnasked v (ask_old_place sdir sname ddir dname)
  of_old sdir sname ddir dname = (
    λ e. e,
    unless_known (no_name (child_told (Some (v (Child sdir sname))))) (ask_unless_there sdir sname ddir dname (child_told (Some (v (Child sdir sname)))))
        (λ n. of_place sdir sname ddir dname (child_told (Some (v (Child sdir sname))))),
  )

  of_rename : (sdir sname ddir dname : List ℕ) → IsUnasked v (ask_rename sdir sname ddir dname)
  of_rename sdir sname ddir dname = either (same sdir ddir) (ask_old_place sdir sname ddir dname) (ask_other_dir sdir sname ddir dname) (of_old sdir sname ddir dname)
      (λ e. e, unless_known (no_dir_to (life_told (Some (v (Life ddir))))) (ask_old_place sdir sname ddir dname) (λ n. of_old sdir sname ddir dname))

  pub unasked : (o : Op) → IsUnasked v (script_of o)
  unasked (op.Lookup dir name) = (λ e. e, unless_known (no_dir (life_told (Some (v (Life dir))))) (ask_child dir name) (λ n. (λ e. e, tt)))
  unasked (op.List dir) = (λ e. e, unless_known (no_dir (life_told (Some (v (Life dir))))) (ask_names dir) (λ n. (λ e. e, tt)))
  unasked (op.Kind file) = (λ e. e, tt)
  unasked (op.Info file) = (λ e. e, of_info file)
  unasked (op.Create dir name kind id) = (
    λ e. e,
    unless_known (no_dir (life_told (Some (v (Life dir))))) (ask_place dir name id)
        (λ n. (λ e. e, unless_known (taken_name (child_told (Some (v (Child dir name))))) (new_file dir id) (λ m. of_new dir id))),
  )
  unasked (op.OpenFile file h modes) = (λ e. e, unless_known (no_file (life_told (Some (v (Life file))))) (ask_own file h modes) (λ n. (λ e. e, of_open (own_told (Some (v (Own file)))) file h modes)))
  unasked (op.Close file h) = (λ e. e, of_close (own_told (Some (v (Own file)))) file h)
  unasked (op.Set file h size stamp) = (λ e. e, of_size file h)
  unasked (op.Delete dir name) = (λ e. e, unless_known (no_dir (life_told (Some (v (Life dir))))) (ask_delete dir name) (λ n. (λ e. e, of_deleted (child_told (Some (v (Child dir name)))))))
  unasked (op.Rename sdir sname ddir dname) = (λ e. e, unless_known (no_dir (life_told (Some (v (Life sdir))))) (ask_rename sdir sname ddir dname) (λ n. of_rename sdir sname ddir dname))
  unasked (op.Reap file session) = tt

-- what is not asked for is no item
no_item : (v : Field → Value) (s : Script) → IsUnasked v s → (field : Field) (kind : LeaseKind) → IsUnread v field → In (Lease field kind) (walk_along (known_with v) always s).items → ⊥
no_item v (answer r) u field kind gone i = i
no_item v (ask f k go) u field kind gone (inl e) = let same : field ≡ f = cc in u.0 (subst (IsUnread v) same gone)
no_item v (ask f k go) u field kind gone (inr i) = no_item v (go (Some (v f))) u.1 field kind gone i
no_item v (give dir go) u field kind gone (inl e) = absurd (cc)
no_item v (give dir go) u field kind gone (inr i) = no_item v go u field kind gone i

pub gone_is_unread : GoneIsUnread
gone_is_unread v o field kind gone i = no_item v (script_of o) (unasked v o) field kind gone i

-- ## Walks that are alike

alike_along : (known : Known) (given : Given) (v : Field → Value) (s : Script) → IsUnasked v s → is_some (walk_along known given s).reply ≡ true
    → ((field : Field) (kind : LeaseKind) → In (Lease field kind) (walk_along known given s).items → IsUnread v field ⊎ (Some (v field) ≡ known field kind))
    → walk_along (known_with v) always s ≡ walk_along known given s
alike_along known given v (answer r) u there h = refl
alike_along known given v (ask field kind go) u there h =
    elim (h field kind (first_behind (Lease field kind) (is_some (known field kind)) (walk_along known given (go (known field kind))))) as (λ _. walk_along (known_with v) always (ask field kind go) ≡ walk_along known given (ask field kind go)) [
      | inl gone ↦ absurd (u.0 gone)
      | inr same ↦ behind_alike (Lease field kind) (is_some (known field kind)) true (walk_along known given (go (known field kind))) (walk_along (known_with v) always (go (Some (v field)))) there
          (λ t. refl)
          (λ r t. ap (λ x. walk_along (known_with v) always (go x)) same ∙ alike_along known given v (go (known field kind)) (subst (λ x. IsUnasked v (go x)) same u.1) r (λ f k i. h f k (items_behind (Lease field kind) (Lease f k) (is_some (known field kind)) (walk_along known given (go (known field kind))) i)))
    ]
alike_along known given v (give dir go) u there h =
    behind_alike (Fresh dir) (given dir) true (walk_along known given go) (walk_along (known_with v) always go) there
    (λ t. refl)
    (λ r t. alike_along known given v go u r (λ f k i. h f k (items_behind (Fresh dir) (Lease f k) (given dir) (walk_along known given go) i)))

pub alike_but_gone : AlikeButGone
alike_but_gone known given v o there h = alike_along known given v (script_of o) (unasked v o) there h

-- ## It stays gone

not_same : (a b : List ℕ) → (same b a || false) ≡ false → same a b ≡ false
not_same a b h = nat_list_eq_equiv.symm a b ∙ (neither (same b a) false h).0

both_none : (b : Bool) (x y : Handles) → x ≡ y → cond b x y ≡ y
both_none true x y e = e
both_none false x y e = refl

-- an open of it is answered otherwise
opened_else : (file f : List ℕ) (h : ℕ) (modes : Modes) (v : Field → Value) → IsGone f v → (walk (known_with v) always (op.OpenFile file h modes)).reply ≡ Some reply.Opened → same f file ≡ false
opened_else file f h modes v gone r = elim (same f file) as (λ b. same f file ≡ b → b ≡ false) [
  | true ↦ λ t.
      let there : v (Life file) ≡ value.Life None = ap (λ g. v (Life g)) (sym (same_is f file t)) ∙ gone.life in
      let q : Some reply.Gone ≡ Some reply.Opened = sym (ap (λ x. (walk_along (known_with v) always (unless (no_file (life_told (Some x))) (ask_own file h modes))).reply) there) ∙ r in
      absurd (cc)
  | false ↦ λ t. refl
] refl

life_stays : (by : Session) (f : List ℕ) (o : Op) (r : Reply) → list_any (makes f) (effects_of by o r) ≡ false → value_after_all by (Life f) (value.Life None) (effects_of by o r) ≡ value.Life None
life_stays by f (op.Create dir name kind (Some id)) reply.Made h = ap (λ b. value.Life (cond b (Some kind) None)) (not_same f id h)
life_stays by f (op.OpenFile file h modes) reply.Opened n = refl
life_stays by f (op.Close file h) reply.Closed n = refl
life_stays by f (op.Set file h size stamp) reply.Set n = refl
life_stays by f o r n = refl

own_stays : (by : Session) (f : List ℕ) (v : Field → Value) (o : Op) (r : Reply) → IsGone f v → (walk (known_with v) always o).reply ≡ Some r → value_after_all by (Own f) (value.Own []) (effects_of by o r) ≡ value.Own []
own_stays by f v (op.Create dir name kind (Some id)) reply.Made gone q = ap value.Own (both_none (same f id) [] [] refl)
own_stays by f v (op.OpenFile file h modes) reply.Opened gone q = ap (λ b. value.Own (cond (b && (by.0 == by.0)) (with_handle [] h modes) [])) (opened_else file f h modes v gone q)
own_stays by f v (op.Close file h) reply.Closed gone q = ap value.Own (both_none (same f file && (by.0 == by.0)) [] [] refl)
own_stays by f v (op.Set file h size stamp) reply.Set gone q = refl
own_stays by f v o r gone q = refl

pub gone_stays : GoneStays
gone_stays by f v o r gone q n = record {
  life = ap (λ x. value_after_all by (Life f) x (effects_of by o r)) gone.life ∙ life_stays by f o r n;
  own = ap (λ x. value_after_all by (Own f) x (effects_of by o r)) gone.own ∙ own_stays by f v o r gone q;
}

-- ## In records

-- where there is no node
pub gone_in : (m : RecordMap) (by : Session) (f : List ℕ) → node_of (get m f) ≡ None → IsGone f (value_of m by)
gone_in m by f n = record { life = ap (value_at by (Life f)) n; own = ap (value_at by (Own f)) n }
