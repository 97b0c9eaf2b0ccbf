-- What stands in the walk of a delete or a rename that is led.
use Rattle.std.proofs.Common.{◌≡◌, ℕ, ◌&&◌, ◌||◌, Bool, true, false, List, refl, sym, ap, ◌∙◌, subst, inl, inr, cond}
use Rattle.std.proofs.lemmas.Bool.{not-true}
use Rattle.std.specs.Prelude.{Option, Some, None, is_some, option_map}
use Rattle.std.specs.Option.{option_and_then}
use Rattle.fs_ident.specs.Ident.{same}
use Rattle.fs_ident.specs.In.{In}
use Rattle.fs_ident.specs.declared.kind.Kind.{Kind}
use Rattle.fs_ident.specs.declared.kind.Kind.TheVariants.{File, Dir}
use Rattle.fs_ident.proofs.Same.{same_is}
use Rattle.fs_field.specs.declared.asked.Need.{Need}
use Rattle.fs_field.specs.declared.asked.Need.TheVariants as need
use Rattle.fs_field.specs.declared.field.Field.TheVariants.{Child, Life}
use Rattle.fs_field.specs.declared.lease_kind.LeaseKind.{LeaseKind}
use Rattle.fs_field.specs.declared.lease_kind.LeaseKind.TheVariants.{Shared, Exclusive}
use Rattle.fs_field.specs.declared.value.Value.{Value}
use Rattle.fs_field.specs.declared.value.Value.TheVariants as value
use Rattle.fs_model.specs.declared.op.Op.{Op}
use Rattle.fs_model.specs.declared.op.Op.TheVariants as op
use Rattle.fs_model.specs.declared.reply.Reply.{Reply}
use Rattle.fs_model.specs.declared.reply.Reply.TheVariants as reply
use Rattle.std.specs.FinMap.{get}
use Rattle.fs_ident.specs.declared.actor.Session.{Session}
use Rattle.fs_model.specs.Asking.{home_of}
use Rattle.fs_model.specs.Sound.{kind_of}
use Rattle.fs_record.specs.Records.{RecordMap, node_of}
use Rattle.fs_record.specs.ValueOf.{value_of}
use Rattle.fs_client.specs.Led.{file_known, file_told, is_led, kind_known, kind_told, life_kind, moved_known}
use Rattle.fs_view.specs.Script.{Script, answer, ask, ask_delete, ask_deleted, ask_moved_file, ask_movable, ask_new_place, ask_old_place, ask_other_dir, ask_rename, ask_unless_there, no_dir, no_dir_to, no_name, script_of, taken_name, unless}
use Rattle.fs_view.specs.Told.{child_told, life_told}
use Rattle.fs_view.specs.Gone.{known_with}
use Rattle.fs_view.specs.Walk.{Given, Known, always, behind, walk, walk_along}
use Rattle.fs_view.specs.declared.walk.Walk.{Walk}
use Rattle.fs_serial.proofs.Replies.Naming.{reply_behind}

-- what is told to be the child is told to be the file of the name
pub child_is : (v : Option Value) (file : List ℕ) → file_told v ≡ Some file → child_told v ≡ Some (Some file)
child_is None file h = absurd (cc)
child_is (Some (value.Child c)) file h = ap Some h
child_is (Some (value.Life k)) file h = absurd (cc)
child_is (Some (value.Names ns)) file h = absurd (cc)
child_is (Some (value.Info size stamp)) file h = absurd (cc)
child_is (Some (value.Own hs)) file h = absurd (cc)
child_is (Some value.SelfW) file h = absurd (cc)
child_is (Some (value.Other b)) file h = absurd (cc)

-- the item stands first, and what stands behind it
pub stands_first : (n : Need) (b : Bool) (w : Walk) → In n (behind n b w).items
stands_first n true w = inl refl
stands_first n false w = inl refl

pub stands_behind : (n x : Need) (b : Bool) (w : Walk) → In x w.items → In x (behind n b w).items
stands_behind n x true w i = inr i
stands_behind n x false w i = inr i

-- the directory to which something goes lives, where the values give such a reply
lives_as : (k : Option Kind) → no_dir_to (Some k) ≡ None → k ≡ Some Dir
lives_as None h = absurd (cc)
lives_as (Some File) h = absurd (cc)
lives_as (Some Dir) h = refl

module _ (known : Known) (given : Given) where
  abbrev items_in : Script → List Need
  items_in s = (walk_along known given s).items

  -- the walk comes to the reply
  abbrev Comes : Script → Reply → Type 0
  Comes s r = (walk_along known given s).reply ≡ Some r

  pub past : (o : Option Reply) (s : Script) (r : Reply) → ((x : Reply) → o ≡ Some x → x ≡ r → ⊥) → Comes (unless o s) r → (o ≡ None) × Comes s r
  past None s r wrong h = (refl, h)
  past (Some x) s r wrong h = absurd (wrong x refl (cc))

  pub no_dir_else : (o : Option (Option Kind)) (x r : Reply) → (r ≡ reply.Gone → ⊥) → (r ≡ reply.NotDir → ⊥) → no_dir o ≡ Some x → x ≡ r → ⊥
  no_dir_else None x r a b h e = absurd (cc)
  no_dir_else (Some None) x r a b h e = let q : reply.Gone ≡ x = cc in a (sym (q ∙ e))
  no_dir_else (Some (Some File)) x r a b h e = let q : reply.NotDir ≡ x = cc in b (sym (q ∙ e))
  no_dir_else (Some (Some Dir)) x r a b h e = absurd (cc)

  no_dir_to_else : (o : Option (Option Kind)) (x : Reply) → no_dir_to o ≡ Some x → x ≡ reply.Renamed → ⊥
  no_dir_to_else None x h e = absurd (cc)
  no_dir_to_else (Some None) x h e = absurd (cc)
  no_dir_to_else (Some (Some File)) x h e = absurd (cc)
  no_dir_to_else (Some (Some Dir)) x h e = absurd (cc)

  taken_else : (o : Option (Option (List ℕ))) (x : Reply) → taken_name o ≡ Some x → x ≡ reply.Renamed → ⊥
  taken_else None x h e = absurd (cc)
  taken_else (Some None) x h e = absurd (cc)
  taken_else (Some (Some f)) x h e = absurd (cc)

  -- the name and the life of the file are asked for
  pub record AsksMoved (s : Script) (dir name file : List ℕ) (o : Op) : Type 0 where
    pub child : In (need.Lease (Child dir name) Exclusive) (items_in s)
    pub life : In (need.Lease (Life file) (life_kind o)) (items_in s)

  behind_all : (n : Need) (b : Bool) (s t : Script) (dir name file : List ℕ) (o : Op) → walk_along known given t ≡ behind n b (walk_along known given s) → AsksMoved s dir name file o → AsksMoved t dir name file o
  behind_all n b s t dir name file o e h = record {
    child = subst (λ (w : Walk). In (need.Lease (Child dir name) Exclusive) w.items) (sym e) (stands_behind n _ b _ h.child);
    life = subst (λ (w : Walk). In (need.Lease (Life file) (life_kind o)) w.items) (sym e) (stands_behind n _ b _ h.life);
  }

  -- ## Deletes

  deleted : (dir name file : List ℕ) → file_told (known (Child dir name) Exclusive) ≡ Some file → AsksMoved (ask_delete dir name) dir name file (op.Delete dir name)
  deleted dir name file f =
      let c : child_told (known (Child dir name) Exclusive) ≡ Some (Some file) = child_is (known (Child dir name) Exclusive) file f in
      record {
        child = stands_first (need.Lease (Child dir name) Exclusive) (is_some (known (Child dir name) Exclusive)) _;
        life = stands_behind (need.Lease (Child dir name) Exclusive) (need.Lease (Life file) Exclusive) (is_some (known (Child dir name) Exclusive)) (walk_along known given (ask_deleted (child_told (known (Child dir name) Exclusive))))
            (subst (λ x. In (need.Lease (Life file) Exclusive) (items_in (ask_deleted x))) (sym c) (stands_first (need.Lease (Life file) Exclusive) (is_some (known (Life file) Exclusive)) _));
      }

  delete_asks : (dir name file : List ℕ) → Comes (script_of (op.Delete dir name)) reply.Deleted → file_told (known (Child dir name) Exclusive) ≡ Some file → AsksMoved (script_of (op.Delete dir name)) dir name file (op.Delete dir name)
  delete_asks dir name file h f =
      let n = need.Lease (Life dir) Shared in
      let b = is_some (known (Life dir) Shared) in
      let then = unless (no_dir (life_told (known (Life dir) Shared))) (ask_delete dir name) in
      let p = past (no_dir (life_told (known (Life dir) Shared))) (ask_delete dir name) reply.Deleted (λ x. no_dir_else (life_told (known (Life dir) Shared)) x reply.Deleted (λ e. cc) (λ e. cc)) (reply_behind n b (walk_along known given then) reply.Deleted h) in
      behind_all n b then (script_of (op.Delete dir name)) dir name file (op.Delete dir name) refl
      (subst (λ o. AsksMoved (unless o (ask_delete dir name)) dir name file (op.Delete dir name)) (sym p.0) (deleted dir name file f))

  -- ## Renames

  -- a script that comes to the reply through another one, and asks for all that this asks for
  record Passes (inner outer : Script) : Type 0 where
    comes : Comes inner reply.Renamed
    all : (n : Need) → In n (items_in inner) → In n (items_in outer)

  through : (inner middle outer : Script) → Passes middle outer → (Comes middle reply.Renamed → Passes inner middle) → Passes inner outer
  through inner middle outer p q = let r : Passes inner middle = q p.comes in record { comes = r.comes; all = λ n i. p.all n (r.all n i) }

  -- behind an item, where no reply is known already
  past_item : (n : Need) (b : Bool) (o : Option Reply) (inner outer : Script) → walk_along known given outer ≡ behind n b (walk_along known given (unless o inner)) → ((x : Reply) → o ≡ Some x → x ≡ reply.Renamed → ⊥) → Comes outer reply.Renamed → Passes inner outer
  past_item n b o inner outer e wrong h =
      let p = past o inner reply.Renamed wrong (reply_behind n b (walk_along known given (unless o inner)) reply.Renamed (sym (ap (λ (w : Walk). w.reply) e) ∙ h)) in
      record {
        comes = p.1;
        all = λ x i. subst (λ (w : Walk). In x w.items) (sym e) (stands_behind n x b (walk_along known given (unless o inner)) (subst (λ q. In x (items_in (unless q inner))) (sym p.0) i));
      }

  no_name_else : (o : Option (Option (List ℕ))) (x : Reply) → no_name o ≡ Some x → x ≡ reply.Renamed → ⊥
  no_name_else None x h e = absurd (cc)
  no_name_else (Some None) x h e = absurd (cc)
  no_name_else (Some (Some f)) x h e = absurd (cc)

  module _ (sdir sname ddir dname : List ℕ) where
    abbrev old : Script
    old = ask_old_place sdir sname ddir dname

    abbrev there : Script
    there = script_of (op.Rename sdir sname ddir dname)

    abbrev child : Option (Option (List ℕ))
    child = child_told (known (Child sdir sname) Exclusive)

    to_old : (b : Bool) → Comes (cond b old (ask_other_dir sdir sname ddir dname)) reply.Renamed → Passes old (cond b old (ask_other_dir sdir sname ddir dname))
    to_old true h = record { comes = h; all = λ n i. i }
    to_old false h = past_item (need.Lease (Life ddir) Shared) (is_some (known (Life ddir) Shared)) (no_dir_to (life_told (known (Life ddir) Shared))) old (ask_other_dir sdir sname ddir dname) refl (no_dir_to_else (life_told (known (Life ddir) Shared))) h

    to_rename : Comes there reply.Renamed → Passes (ask_rename sdir sname ddir dname) there
    to_rename h = past_item (need.Lease (Life sdir) Shared) (is_some (known (Life sdir) Shared)) (no_dir (life_told (known (Life sdir) Shared))) (ask_rename sdir sname ddir dname) there refl (λ x. no_dir_else (life_told (known (Life sdir) Shared)) x reply.Renamed (λ e. cc) (λ e. cc)) h

    from_old : Comes there reply.Renamed → Passes old there
    from_old h = through old (ask_rename sdir sname ddir dname) there (to_rename h) (to_old (same sdir ddir))

    -- the file is asked for itself where it is neither of the directories
    module _ (file : List ℕ) (f : file_told (known (Child sdir sname) Exclusive) ≡ Some file) (other : (same sdir ddir && same sname dname) ≡ false) (h : Comes there reply.Renamed) where
      is : child ≡ Some (Some file)
      is = child_is (known (Child sdir sname) Exclusive) file f

      to_new : Comes old reply.Renamed → Passes (ask_new_place sdir ddir dname (Some (Some file))) old
      to_new g =
          let p = past_item (need.Lease (Child sdir sname) Exclusive) (is_some (known (Child sdir sname) Exclusive)) (no_name child) (ask_unless_there sdir sname ddir dname child) old refl (no_name_else child) g in
          subst (λ b. Passes (cond b (answer reply.Renamed) (ask_new_place sdir ddir dname (Some (Some file)))) old) other
          (subst (λ c. Passes (ask_unless_there sdir sname ddir dname c) old) is p)

      to_moved : Comes (ask_new_place sdir ddir dname (Some (Some file))) reply.Renamed → Passes (ask_moved_file sdir ddir file) (ask_new_place sdir ddir dname (Some (Some file)))
      to_moved g = past_item (need.Lease (Child ddir dname) Exclusive) (is_some (known (Child ddir dname) Exclusive)) (taken_name (child_told (known (Child ddir dname) Exclusive))) (ask_moved_file sdir ddir file) (ask_new_place sdir ddir dname (Some (Some file))) refl (taken_else (child_told (known (Child ddir dname) Exclusive))) g

      from_moved : Passes (ask_moved_file sdir ddir file) there
      from_moved = through (ask_moved_file sdir ddir file) (ask_new_place sdir ddir dname (Some (Some file))) there (through (ask_new_place sdir ddir dname (Some (Some file))) old there (from_old h) to_new) to_moved

      first_dir : In (need.Lease (Life sdir) Shared) (items_in there)
      first_dir = stands_first (need.Lease (Life sdir) Shared) (is_some (known (Life sdir) Shared)) _

      second_dir : (b : Bool) → same sdir ddir ≡ b → In (need.Lease (Life ddir) Shared) (items_in there)
      second_dir true t = subst (λ d. In (need.Lease (Life d) Shared) (items_in there)) (same_is sdir ddir t) first_dir
      second_dir false t = (to_rename h).all (need.Lease (Life ddir) Shared) (subst (λ b. In (need.Lease (Life ddir) Shared) (items_in (cond b old (ask_other_dir sdir sname ddir dname)))) (sym t) (stands_first (need.Lease (Life ddir) Shared) (is_some (known (Life ddir) Shared)) _))

      life_by : (a b : Bool) → same file sdir ≡ a → same file ddir ≡ b → In (need.Lease (Life file) Shared) (items_in there)
      life_by true b p q = subst (λ d. In (need.Lease (Life d) Shared) (items_in there)) (sym (same_is file sdir p)) first_dir
      life_by false true p q = subst (λ d. In (need.Lease (Life d) Shared) (items_in there)) (sym (same_is file ddir q)) (second_dir (same sdir ddir) refl)
      life_by false false p q = from_moved.all (need.Lease (Life file) Shared) (subst (λ x. In (need.Lease (Life file) Shared) (items_in (cond x (ask_movable file) (ask (Life file) Shared (λ life. ask_movable file))))) (sym (ap (λ x. x || same file ddir) p ∙ q)) (stands_first (need.Lease (Life file) Shared) (is_some (known (Life file) Shared)) _))

      rename_asks : AsksMoved there sdir sname file (op.Rename sdir sname ddir dname)
      rename_asks = record {
        child = (from_old h).all (need.Lease (Child sdir sname) Exclusive) (stands_first (need.Lease (Child sdir sname) Exclusive) (is_some (known (Child sdir sname) Exclusive)) _);
        life = life_by (same file sdir) (same file ddir) refl refl;
      }

      -- so is the new name
      new_name : In (need.Lease (Child ddir dname) Exclusive) (items_in there)
      new_name = (through (ask_new_place sdir ddir dname (Some (Some file))) old there (from_old h) to_new).all (need.Lease (Child ddir dname) Exclusive) (stands_first (need.Lease (Child ddir dname) Exclusive) (is_some (known (Child ddir dname) Exclusive)) _)

  -- ## Either

  -- what is led asks for the name and the life of the file
  abbrev pub HasMoved : Op → List ℕ → Type 0
  HasMoved (op.Delete dir name) file = AsksMoved (script_of (op.Delete dir name)) dir name file (op.Delete dir name)
  HasMoved (op.Rename sdir sname ddir dname) file = AsksMoved (script_of (op.Rename sdir sname ddir dname)) sdir sname file (op.Rename sdir sname ddir dname)
  HasMoved o file = Unit {0}

  pub moved_items : (o : Op) (r : Reply) (file : List ℕ) → is_led o r ≡ true → (walk known given o).reply ≡ Some r → file_known known o ≡ Some file → HasMoved o file
  moved_items (op.Delete dir name) reply.Deleted file l h f = delete_asks dir name file h f
  moved_items (op.Delete dir name) r file l h f = absurd (cc)
  moved_items (op.Rename sdir sname ddir dname) reply.Renamed file l h f = rename_asks sdir sname ddir dname file f (not-true (same sdir ddir && same sname dname) l) h
  moved_items (op.Rename sdir sname ddir dname) r file l h f = absurd (cc)
  moved_items o r file l h f = absurd (cc)

  -- a rename asks for the new name
  abbrev pub HasPlace : Op → Type 0
  HasPlace (op.Rename sdir sname ddir dname) = In (need.Lease (Child ddir dname) Exclusive) (items_in (script_of (op.Rename sdir sname ddir dname)))
  HasPlace o = Unit {0}

  pub placed_items : (o : Op) (r : Reply) (file : List ℕ) → is_led o r ≡ true → (walk known given o).reply ≡ Some r → file_known known o ≡ Some file → HasPlace o
  placed_items (op.Rename sdir sname ddir dname) reply.Renamed file l h f = new_name sdir sname ddir dname file f (not-true (same sdir ddir && same sname dname) l) h
  placed_items (op.Rename sdir sname ddir dname) r file l h f = absurd (cc)
  placed_items (op.Delete dir name) r file l h f = tt
  placed_items o r file l h f = absurd (cc)

  -- ## The home

  -- the life of the directory from which something goes, or to which it moves, is asked for, and it is a directory
  pub record AsksHome (o : Op) : Type 0 where
    pub item : In (need.Lease (Life (home_of o)) Shared) (items_in (script_of o))
    pub dir : (k : Option Kind) → known (Life (home_of o)) Shared ≡ Some (value.Life k) → k ≡ Some Dir

  is_dir : (k : Option Kind) → no_dir (Some k) ≡ None → k ≡ Some Dir
  is_dir None h = absurd (cc)
  is_dir (Some File) h = absurd (cc)
  is_dir (Some Dir) h = refl

  -- a script that asks for it first
  first_asked : (dir : List ℕ) (r : Reply) (s : Script) → (r ≡ reply.Gone → ⊥) → (r ≡ reply.NotDir → ⊥) → Comes (ask (Life dir) Shared (λ life. unless (no_dir (life_told life)) s)) r → (k : Option Kind) → known (Life dir) Shared ≡ Some (value.Life k) → k ≡ Some Dir
  first_asked dir r s a b h k e =
      let o = no_dir (life_told (known (Life dir) Shared)) in
      let p = past o s r (λ x. no_dir_else (life_told (known (Life dir) Shared)) x r a b) (reply_behind (need.Lease (Life dir) Shared) (is_some (known (Life dir) Shared)) (walk_along known given (unless o s)) r h) in
      is_dir k (sym (ap (λ v. no_dir (life_told v)) e) ∙ p.0)

  rename_home : (sdir sname ddir dname : List ℕ) (b : Bool) → same sdir ddir ≡ b → Comes (script_of (op.Rename sdir sname ddir dname)) reply.Renamed → AsksHome (op.Rename sdir sname ddir dname)
  rename_home sdir sname ddir dname true t h =
      let is : sdir ≡ ddir = same_is sdir ddir t in
      record {
        item = subst (λ d. In (need.Lease (Life d) Shared) (items_in (script_of (op.Rename sdir sname ddir dname)))) is (stands_first (need.Lease (Life sdir) Shared) (is_some (known (Life sdir) Shared)) _);
        dir = λ k e. first_asked sdir reply.Renamed (ask_rename sdir sname ddir dname) (λ e. cc) (λ e. cc) h k (subst (λ d. known (Life d) Shared ≡ Some (value.Life k)) (sym is) e);
      }
  rename_home sdir sname ddir dname false t h =
      let p : Passes (ask_other_dir sdir sname ddir dname) (script_of (op.Rename sdir sname ddir dname)) = subst (λ b. Passes (cond b (ask_old_place sdir sname ddir dname) (ask_other_dir sdir sname ddir dname)) (script_of (op.Rename sdir sname ddir dname))) t (to_rename sdir sname ddir dname h) in
      let v = known (Life ddir) Shared in
      let o = no_dir_to (life_told v) in
      let n = need.Lease (Life ddir) Shared in
      record {
        item = p.all n (stands_first n (is_some v) _);
        dir = λ k e. lives_as k (sym (ap (λ v. no_dir_to (life_told v)) e) ∙ (past o (ask_old_place sdir sname ddir dname) reply.Renamed (no_dir_to_else (life_told v)) (reply_behind n (is_some v) (walk_along known given (unless o (ask_old_place sdir sname ddir dname))) reply.Renamed p.comes)).0);
      }

  pub home_asked : (o : Op) (r : Reply) → is_led o r ≡ true → (walk known given o).reply ≡ Some r → AsksHome o
  home_asked (op.Delete dir name) reply.Deleted l h = record {
    item = stands_first (need.Lease (Life dir) Shared) (is_some (known (Life dir) Shared)) _;
    dir = first_asked dir reply.Deleted (ask_delete dir name) (λ e. cc) (λ e. cc) h;
  }
  home_asked (op.Delete dir name) r l h = absurd (cc)
  home_asked (op.Rename sdir sname ddir dname) reply.Renamed l h = rename_home sdir sname ddir dname (same sdir ddir) refl h
  home_asked (op.Rename sdir sname ddir dname) r l h = absurd (cc)
  home_asked o r l h = absurd (cc)

-- ## Whoever knows both the same

file_of_moved : (known : Known) (o : Op) (m : List ℕ × Kind) (f : Option (List ℕ)) → option_and_then (λ file. option_map (λ kind. (file, kind)) (kind_known known o file)) f ≡ Some m → (f ≡ Some m.0) × (kind_known known o m.0 ≡ Some m.1)
file_of_moved known o m None h = absurd (cc)
file_of_moved known o m (Some file) h = by (kind_known known o file) refl h
  where
    by : (k : Option Kind) → kind_known known o file ≡ k → option_map (λ kind. (file, kind)) k ≡ Some m → (Some file ≡ Some m.0) × (kind_known known o m.0 ≡ Some m.1)
    by None e q = absurd (cc)
    by (Some kind) e q = let same : (file, kind) ≡ m = cc in (ap (λ (x : List ℕ × Kind). Some x.0) same, subst (λ (x : List ℕ × Kind). kind_known known o x.0 ≡ Some x.1) same e)

-- the file and its kind are parts of what moves
pub moved_parts : (known : Known) (o : Op) (m : List ℕ × Kind) → moved_known known o ≡ Some m → (file_known known o ≡ Some m.0) × (kind_known known o m.0 ≡ Some m.1)
moved_parts known o m h = file_of_moved known o m (file_known known o) h

moved_whole : (known : Known) (o : Op) (m : List ℕ × Kind) → file_known known o ≡ Some m.0 → kind_known known o m.0 ≡ Some m.1 → moved_known known o ≡ Some m
moved_whole known o m f k = ap (λ x. option_and_then (λ file. option_map (λ kind. (file, kind)) (kind_known known o file)) x) f ∙ ap (option_map (λ kind. (m.0, kind))) k

pub moved_alike : (known other : Known) (given : Given) (o : Op) (r : Reply) (m : List ℕ × Kind) → is_led o r ≡ true → (walk known given o).reply ≡ Some r → moved_known known o ≡ Some m
    → ((dir name : List ℕ) → In (need.Lease (Child dir name) Exclusive) (walk known given o).items → other (Child dir name) Exclusive ≡ known (Child dir name) Exclusive)
    → ((file : List ℕ) (kind : LeaseKind) → In (need.Lease (Life file) kind) (walk known given o).items → other (Life file) kind ≡ known (Life file) kind)
    → moved_known other o ≡ Some m
moved_alike known other given (op.Delete dir name) r m l h k names lives =
    let p = moved_parts known (op.Delete dir name) m k in
    let q = moved_items known given (op.Delete dir name) r m.0 l h p.0 in
    moved_whole other (op.Delete dir name) m (ap file_told (names dir name q.child) ∙ p.0) (ap kind_told (lives m.0 Exclusive q.life) ∙ p.1)
moved_alike known other given (op.Rename sdir sname ddir dname) r m l h k names lives =
    let p = moved_parts known (op.Rename sdir sname ddir dname) m k in
    let q = moved_items known given (op.Rename sdir sname ddir dname) r m.0 l h p.0 in
    moved_whole other (op.Rename sdir sname ddir dname) m (ap file_told (names sdir sname q.child) ∙ p.0) (ap kind_told (lives m.0 Shared q.life) ∙ p.1)
moved_alike known other given o r m l h k names lives = absurd (cc)

pub other_dir_lives : (m : RecordMap) (by : Session) (sdir sname ddir dname : List ℕ) → same sdir ddir ≡ false → (walk (known_with (value_of m by)) always (op.Rename sdir sname ddir dname)).reply ≡ Some reply.Renamed → kind_of (node_of (get m ddir)) ≡ Some Dir
other_dir_lives m by sdir sname ddir dname t h =
    let known = known_with (value_of m by) in
    let there : (walk_along known always (ask_other_dir sdir sname ddir dname)).reply ≡ Some reply.Renamed = subst (λ b. (walk_along known always (cond b (ask_old_place sdir sname ddir dname) (ask_other_dir sdir sname ddir dname))).reply ≡ Some reply.Renamed) t (to_rename known always sdir sname ddir dname h).comes in
    let o : Option Reply = no_dir_to (Some (kind_of (node_of (get m ddir)))) in
    lives_as (kind_of (node_of (get m ddir))) (past known always o (ask_old_place sdir sname ddir dname) reply.Renamed (no_dir_to_else known always (Some (kind_of (node_of (get m ddir))))) there).0
