-- What a delete or a rename asks for: kinds that servers give, on its files alone.
use Rattle.std.proofs.Common.{◌≡◌, ℕ, ◌&&◌, ◌||◌, Bool, true, false, List, [], ◌∷◌, ◌++◌, map, refl, sym, subst, inl, inr, cond}
use Rattle.std.specs.Prelude.{Option, Some, None, is_some}
use Rattle.std.specs.List.{flat_map, list_any}
use Rattle.fs_ident.specs.Ident.{same}
use Rattle.fs_ident.specs.In.{In}
use Rattle.fs_ident.proofs.Same.{same_is, same_self}
use Rattle.fs_ident.proofs.Standing.{In-behind, In-front, In-mapped}
use Rattle.fs_modes.specs.declared.modes.Mode.{Mode}
use Rattle.fs_field.specs.Field.{file_of}
use Rattle.fs_field.specs.declared.asked.Need.{Need}
use Rattle.fs_field.specs.declared.asked.Need.TheVariants as need
use Rattle.fs_field.specs.declared.field.Field.TheVariants.{Child, Life, Names, Other, Own}
use Rattle.fs_field.specs.declared.lease_kind.LeaseKind.TheVariants.{Exclusive, Shared}
use Rattle.fs_field.specs.declared.used.Part.{Part}
use Rattle.fs_field.specs.declared.used.Use.{Use}
use Rattle.fs_field.specs.declared.value.Value.{Value}
use Rattle.fs_field.specs.declared.value.Value.TheVariants as value
use Rattle.fs_model.specs.Asking.{home_of}
use Rattle.fs_model.specs.declared.op.Op.{Op}
use Rattle.fs_model.specs.declared.op.Op.TheVariants as op
use Rattle.fs_model.specs.declared.reply.Reply.{Reply}
use Rattle.fs_model.specs.declared.reply.Reply.TheVariants as reply
use Rattle.fs_modes.specs.declared.modes.Mode.TheVariants.{DenyD}
use Rattle.fs_client.specs.Led.{file_known, file_told, is_led, lead_of}
use Rattle.fs_client.specs.declared.led.Led.{Led}
use Rattle.fs_server.specs.Asks.{kind_for}
use Rattle.fs_server.specs.Leads.{parts_in, uses_of}
use Rattle.fs_txn.specs.Parts.{led_files, part_at, source_of, with_file}
use Rattle.fs_txn.specs.declared.mode.Mode2.TheVariants.{Plain}
use Rattle.fs_view.specs.Script.{Script, accesses, answer, ask, ask_delete, ask_deleted, ask_empty, ask_movable, ask_moved, ask_new_place, ask_old_place, ask_other_dir, ask_others, ask_rename, ask_unless_there, ask_unused, denied, give, in_use, no_dir, no_dir_to, no_name, not_empty, script_of, taken_name, unless}
use Rattle.fs_view.specs.Told.{child_told, is_other_told, life_told, names_told, own_told}
use Rattle.fs_view.specs.Walk.{Given, Known, behind, walk_along}
use Rattle.fs_view.specs.declared.walk.Walk.{Walk}
use Rattle.fs_serial.proofs.Grants.RowKinds.{In-kept}

-- each item is of the kind that is given, on such a file; no identifier is asked for
abbrev pub AsksOn : (List ℕ → Type 0) → Known → Script → Type 0
AsksOn on known (answer r) = Unit {0}
AsksOn on known (ask field kind go) = (kind_for field kind ≡ kind) × on (file_of field) × AsksOn on known (go (known field kind))
AsksOn on known (give dir go) = ⊥

abbrev pub IsItemOn : (List ℕ → Type 0) → Need → Type 0
IsItemOn on (need.Lease field kind) = (kind_for field kind ≡ kind) × on (file_of field)
IsItemOn on (need.Fresh dir) = ⊥

behind_on : (on : List ℕ → Type 0) (n : Need) (b : Bool) (w : Walk) → IsItemOn on n → ((x : Need) → In x w.items → IsItemOn on x) → (x : Need) → In x (behind n b w).items → IsItemOn on x
behind_on on n true w h rec x (inl e) = subst (IsItemOn on) (sym e) h
behind_on on n true w h rec x (inr i) = rec x i
behind_on on n false w h rec x (inl e) = subst (IsItemOn on) (sym e) h
behind_on on n false w h rec x (inr i) = rec x i

pub items_on : (on : List ℕ → Type 0) (known : Known) (given : Given) (s : Script) → AsksOn on known s → (n : Need) → In n (walk_along known given s).items → IsItemOn on n
items_on on known given (answer r) h n i = absurd i
items_on on known given (ask field kind go) h n i = behind_on on (need.Lease field kind) (is_some (known field kind)) (walk_along known given (go (known field kind))) (h.0, h.1) (items_on on known given (go (known field kind)) h.2) n i
items_on on known given (give dir go) h n i = absurd h

told_child : (v : Option Value) (file : List ℕ) → child_told v ≡ Some (Some file) → file_told v ≡ Some file
told_child None file h = absurd (cc)
told_child (Some (value.Child c)) file h = let q : c ≡ Some file = cc in q
told_child (Some (value.Life k)) file h = absurd (cc)
told_child (Some (value.Names ns)) file h = absurd (cc)
told_child (Some (value.Info size stamp)) file h = absurd (cc)
told_child (Some (value.Own hs)) file h = absurd (cc)
told_child (Some value.SelfW) file h = absurd (cc)
told_child (Some (value.Other b)) file h = absurd (cc)

module _ (on : List ℕ → Type 0) (known : Known) where
  abbrev Asks : Script → Type 0
  Asks s = AsksOn on known s

  unless_on : (o : Option Reply) (s : Script) → Asks s → Asks (unless o s)
  unless_on (Some r) s h = tt
  unless_on None s h = h

  either_on : (b : Bool) (s t : Script) → Asks s → Asks t → Asks (cond b s t)
  either_on true s t h k = h
  either_on false s t h k = k

  others_on : (r : Reply) (modes : List Mode) (file : List ℕ) (found : Bool) (go : Script) → on file → Asks go → Asks (ask_others r modes file found go)
  others_on r [] file true go p h = tt
  others_on r [] file false go p h = h
  others_on r (m ∷ ms) file found go p h = (refl, p, others_on r ms file (found || is_other_told (known (Other file m) Shared)) go p h)

  -- ## Deletes

  empty_on : (file : List ℕ) → on file → Asks (ask_empty file)
  empty_on file p = (refl, p, unless_on (not_empty (names_told (known (Names file) Shared))) (ask_unused file) (refl, p, unless_on (in_use (own_told (known (Own file) Exclusive))) (ask_others reply.InUse accesses file false (answer reply.Deleted)) (others_on reply.InUse accesses file false (answer reply.Deleted) p tt)))

  deleted_on : (o : Option (Option (List ℕ))) → ((file : List ℕ) → o ≡ Some (Some file) → on file) → Asks (ask_deleted o)
  deleted_on None p = tt
  deleted_on (Some None) p = tt
  deleted_on (Some (Some file)) p = (refl, p file refl, empty_on file (p file refl))

  pub delete_on : (dir name : List ℕ) → on dir → ((file : List ℕ) → file_told (known (Child dir name) Exclusive) ≡ Some file → on file) → Asks (script_of (op.Delete dir name))
  delete_on dir name p f = (refl, p, unless_on (no_dir (life_told (known (Life dir) Shared))) (ask_delete dir name) (refl, p, deleted_on (child_told (known (Child dir name) Exclusive)) (λ file e. f file (told_child (known (Child dir name) Exclusive) file e))))

  -- ## Renames

  movable_on : (file : List ℕ) → on file → Asks (ask_movable file)
  movable_on file p = (refl, p, unless_on (denied (own_told (known (Own file) Exclusive))) (ask_others reply.Sharing (DenyD ∷ []) file false (answer reply.Renamed)) (others_on reply.Sharing (DenyD ∷ []) file false (answer reply.Renamed) p tt))

  moved_on : (sdir ddir : List ℕ) (o : Option (Option (List ℕ))) → ((file : List ℕ) → o ≡ Some (Some file) → on file) → Asks (ask_moved sdir ddir o)
  moved_on sdir ddir None p = tt
  moved_on sdir ddir (Some None) p = tt
  moved_on sdir ddir (Some (Some file)) p = either_on (same file sdir || same file ddir) (ask_movable file) _ (movable_on file (p file refl)) (refl, p file refl, movable_on file (p file refl))

  module _ (sdir sname ddir dname : List ℕ) (s : on sdir) (d : on ddir) (f : (file : List ℕ) → file_told (known (Child sdir sname) Exclusive) ≡ Some file → on file) where
    abbrev child : Option (Option (List ℕ))
    child = child_told (known (Child sdir sname) Exclusive)

    old_on : Asks (ask_old_place sdir sname ddir dname)
    old_on = (
      refl,
      s,
      unless_on (no_name child) (ask_unless_there sdir sname ddir dname child)
          (either_on (same sdir ddir && same sname dname) (answer reply.Renamed) (ask_new_place sdir ddir dname child) tt
          (refl, d, unless_on (taken_name (child_told (known (Child ddir dname) Exclusive))) (ask_moved sdir ddir child) (moved_on sdir ddir child (λ file e. f file (told_child (known (Child sdir sname) Exclusive) file e))))),
    )

    pub rename_on : Asks (script_of (op.Rename sdir sname ddir dname))
    rename_on = (
      refl,
      s,
      unless_on (no_dir (life_told (known (Life sdir) Shared))) (ask_rename sdir sname ddir dname)
          (either_on (same sdir ddir) (ask_old_place sdir sname ddir dname) (ask_other_dir sdir sname ddir dname) old_on (refl, d, unless_on (no_dir_to (life_told (known (Life ddir) Shared))) (ask_old_place sdir sname ddir dname) old_on)),
    )

-- ## Either

pub move_on : (on : List ℕ → Type 0) (known : Known) (o : Op) (r : Reply) → is_led o r ≡ true → on (source_of o) → on (home_of o) → ((file : List ℕ) → file_known known o ≡ Some file → on file) → AsksOn on known (script_of o)
move_on on known (op.Delete dir name) r l s d f = delete_on on known dir name d f
move_on on known (op.Rename sdir sname ddir dname) r l s d f = rename_on on known sdir sname ddir dname s d f
move_on on known o r l s d f = absurd (cc)

-- ## The files of a led operation

in_with : (f : List ℕ) (fs : List (List ℕ)) → In f (with_file f fs)
in_with f fs = by (list_any (λ g. same g f) fs) refl
  where
    there : (gs : List (List ℕ)) → list_any (λ g. same g f) gs ≡ true → In f gs
    there [] h = absurd (cc)
    there (g ∷ gs) h = at (same g f) refl h (there gs)
      where
        at : (b : Bool) → same g f ≡ b → (b || list_any (λ g. same g f) gs) ≡ true → (list_any (λ g. same g f) gs ≡ true → In f gs) → In f (g ∷ gs)
        at true t h rec = inl (sym (same_is g f t))
        at false t h rec = inr (rec h)

    by : (b : Bool) → list_any (λ g. same g f) fs ≡ b → In f (cond b fs (fs ++ f ∷ []))
    by true t = there fs t
    by false t = In-behind f fs (f ∷ []) (inl refl)

in_more : (x f : List ℕ) (fs : List (List ℕ)) → In x fs → In x (with_file f fs)
in_more x f fs i = by (list_any (λ g. same g f) fs)
  where
    by : (b : Bool) → In x (cond b fs (fs ++ f ∷ []))
    by true = i
    by false = In-front x fs (f ∷ []) i

pub home_led : (o : Op) (file : List ℕ) → In (home_of o) (led_files o file)
home_led o file = in_more (home_of o) file (with_file (source_of o) (home_of o ∷ [])) (in_more (home_of o) (source_of o) (home_of o ∷ []) (inl refl))

pub source_led : (o : Op) (file : List ℕ) → In (source_of o) (led_files o file)
source_led o file = in_more (source_of o) file (with_file (source_of o) (home_of o ∷ [])) (in_with (source_of o) (home_of o ∷ []))

pub file_led : (o : Op) (file : List ℕ) → In file (led_files o file)
file_led o file = in_with file (with_file (source_of o) (home_of o ∷ []))

in_flat : (u : Use) (p : Part) (ps : List Part) → In p ps → In u p.uses → In u (flat_map (λ (p : Part). p.uses) ps)
in_flat u p [] i j = absurd i
in_flat u p (x ∷ ps) (inl e) j = In-front u x.uses (flat_map (λ (p : Part). p.uses) ps) (subst (λ (y : Part). In u y.uses) e j)
in_flat u p (x ∷ ps) (inr i) j = In-behind u x.uses (flat_map (λ (p : Part). p.uses) ps) (in_flat u p ps i j)

-- a lease on one of them is of one of the parts
pub use_of_part : (l : Led) (u : Use) → In u l.entry.uses → In (file_of u.field) (led_files l.entry.op l.file)
    → In u (uses_of (parts_in Plain (lead_of l)))
use_of_part l u i j =
    let part = part_at Plain l.entry.op l.file l.entry.uses in
    in_flat u (part (file_of u.field)) (map part (led_files l.entry.op l.file)) (In-mapped part (file_of u.field) (led_files l.entry.op l.file) j)
    (In-kept (λ (v : Use). same (file_of v.field) (file_of u.field)) u l.entry.uses i (same_self (file_of u.field)))
