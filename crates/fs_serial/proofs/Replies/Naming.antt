-- An answer by the values of fields, where a create that is made names the identifier that was given for it.
use Rattle.std.proofs.Common.{◌≡◌, ℕ, ◌||◌, Bool, true, false, List, [], ◌∷◌, refl, sym, ap, subst, inl, inr, cond}
use Rattle.std.specs.Prelude.{Option, Some, None, is_some}
use Rattle.fs_ident.specs.In.{In}
use Rattle.fs_ident.specs.declared.kind.Kind.{Kind}
use Rattle.fs_ident.specs.declared.kind.Kind.TheVariants.{File, Dir}
use Rattle.fs_modes.specs.declared.modes.Mode.{Mode}
use Rattle.fs_modes.specs.declared.modes.Modes.{Modes}
use Rattle.fs_modes.specs.Modes.{opposing}
use Rattle.fs_field.specs.declared.asked.Need.{Need}
use Rattle.fs_field.specs.declared.asked.Need.TheVariants as need
use Rattle.fs_field.specs.declared.field.Field.{Field}
use Rattle.fs_field.specs.declared.field.Field.TheVariants.{Life, Child}
use Rattle.fs_field.specs.declared.lease_kind.LeaseKind.{LeaseKind}
use Rattle.fs_field.specs.declared.lease_kind.LeaseKind.TheVariants.{Shared, Exclusive}
use Rattle.fs_field.specs.declared.used.Use.{Use}
use Rattle.fs_field.specs.declared.value.Value.{Value}
use Rattle.fs_field.specs.declared.value.Value.TheVariants as value
use Rattle.fs_field.specs.After.{Handles}
use Rattle.fs_model.specs.Asking.{may_ask}
use Rattle.fs_model.specs.declared.op.Op.{Op}
use Rattle.fs_model.specs.declared.op.Op.TheVariants as op
use Rattle.fs_model.specs.declared.reply.Reply.{Reply}
use Rattle.fs_model.specs.declared.reply.Reply.TheVariants as reply
use Rattle.fs_record.specs.Effects.{tells_its_effects}
use Rattle.fs_client.specs.Acts.{with_id}
use Rattle.fs_view.specs.Gone.{known_with}
use Rattle.fs_view.specs.Script.{Script, answer, ask, give, unless, no_dir, taken_name, made_reply, new_file, ask_place, ask_others, ask_selves, open_with, open_free, close_with, modes_on, modes_off, no_set, ask_size, ask_own, ask_child, ask_names, ask_info, no_file, script_of}
use Rattle.fs_view.specs.Told.{life_told, child_told, own_told, is_other_told, modes_under, own_conflicts, modes_listed}
use Rattle.fs_view.specs.View.{View, fresh}
use Rattle.fs_view.specs.declared.walk.Walk.{Walk}
use Rattle.fs_view.specs.Walk.{Known, Given, walk_along, walk, behind, always}
use Rattle.fs_view.proofs.Walks.{first_behind}
use Rattle.fs_model.specs.Sound.{AsksAccess}
use Rattle.fs_serial.specs.Pending.{HasUse, IsCovered, NamesItsFile, NamesReserved, named_by}

-- ## Scripts that ask for no identifier

abbrev NoGive : Script → Type 0
NoGive (answer r) = Unit {0}
NoGive (ask field kind go) = (v : Option Value) → NoGive (go v)
NoGive (give dir go) = ⊥

unless_free : (o : Option Reply) (s : Script) → NoGive s → NoGive (unless o s)
unless_free (Some r) s h = tt
unless_free None s h = h

if_free : (b : Bool) (s t : Script) → NoGive s → NoGive t → NoGive (cond b s t)
if_free true s t h k = h
if_free false s t h k = k

others_free : (r : Reply) (ms : List Mode) (file : List ℕ) (told : Bool) (go : Script) → NoGive go → NoGive (ask_others r ms file told go)
others_free r [] file true go h = tt
others_free r [] file false go h = h
others_free r (m ∷ ms) file told go h = λ v. others_free r ms file (told || is_other_told v) go h

selves_free : (ms : List Mode) (file : List ℕ) (r : Reply) → NoGive (ask_selves ms file r)
selves_free [] file r = tt
selves_free (m ∷ ms) file r = λ v. selves_free ms file r

free_free : (b : Bool) (own : Handles) (file : List ℕ) (modes : Modes) → NoGive (open_free b own file modes)
free_free true own file modes = tt
free_free false own file modes = others_free reply.Sharing (modes_listed (opposing modes)) file false _ (selves_free (modes_listed (modes_on own modes)) file reply.Opened)

open_with_free : (o : Option Handles) (file : List ℕ) (h : ℕ) (modes : Modes) → NoGive (open_with o file h modes)
open_with_free None file h modes = others_free reply.Sharing (modes_listed (opposing modes)) file false (answer reply.Opened) tt
open_with_free (Some own) file h modes = if_free (is_some (modes_under own h)) _ _ tt (free_free (own_conflicts own modes) own file modes)

close_with_free : (o : Option Handles) (file : List ℕ) (h : ℕ) → NoGive (close_with o file h)
close_with_free None file h = tt
close_with_free (Some own) file h = if_free (is_some (modes_under own h)) _ _ (selves_free (modes_listed (modes_off own h)) file reply.Closed) tt

-- every item is a lease
abbrev IsLeaseItem : Need → Type 0
IsLeaseItem (need.Lease field kind) = Unit {0}
IsLeaseItem (need.Fresh dir) = ⊥

behind_items : (n : Need) (b : Bool) (w : Walk) → IsLeaseItem n → ((x : Need) → In x w.items → IsLeaseItem x) → (x : Need) → In x (behind n b w).items → IsLeaseItem x
behind_items n true w h rec x (inl e) = subst IsLeaseItem (sym e) h
behind_items n true w h rec x (inr i) = rec x i
behind_items n false w h rec x (inl e) = subst IsLeaseItem (sym e) h
behind_items n false w h rec x (inr i) = rec x i

lease_items : (known : Known) (given : Given) (s : Script) → NoGive s → (n : Need) → In n (walk_along known given s).items → IsLeaseItem n
lease_items known given (answer r) h n i = absurd i
lease_items known given (ask field kind go) h n i = behind_items (need.Lease field kind) (is_some (known field kind)) (walk_along known given (go (known field kind))) tt (lease_items known given (go (known field kind)) (h (known field kind))) n i
lease_items known given (give dir go) h n i = absurd h

-- ## Covered items

-- the leases that were asked for were used
abbrev pub Covers : List Use → List Need → Type 0
Covers uses items = (field : Field) (kind : LeaseKind) → In (need.Lease field kind) items → HasUse uses field kind

pub all_covered : (uses : List Use) (items : List Need) → Covers uses items → ((n : Need) → In n items → IsLeaseItem n) → (n : Need) → In n items → IsCovered uses n
all_covered uses items cover free (need.Lease field kind) i = cover field kind i
all_covered uses items cover free (need.Fresh dir) i = absurd (free (need.Fresh dir) i)

-- an answer by values
pub record IsRight (w : Field → Value) (uses : List Use) (r : Reply) (s : Script) : Type 0 where
  pub reply : (walk_along (known_with w) always s).reply ≡ Some r
  pub covered : (n : Need) → In n (walk_along (known_with w) always s).items → IsCovered uses n

pub free_right : (w : Field → Value) (uses : List Use) (r : Reply) (s : Script) → NoGive s → (walk_along (known_with w) always s).reply ≡ Some r → Covers uses (walk_along (known_with w) always s).items → IsRight w uses r s
free_right w uses r s h e cover = record { reply = e; covered = all_covered uses (walk_along (known_with w) always s).items cover (lease_items (known_with w) always s h) }

-- one lease before it
right_behind : (w : Field → Value) (uses : List Use) (r : Reply) (field : Field) (kind : LeaseKind) (go : Option Value → Script) → HasUse uses field kind → IsRight w uses r (go (Some (w field))) → IsRight w uses r (ask field kind go)
right_behind w uses r field kind go covering rest = record {
  reply = rest.reply;
  covered = λ n i. elim i as (λ _. IsCovered uses n) [ inl e ↦ subst (IsCovered uses) (sym e) covering | inr j ↦ rest.covered n j ];
}

-- ## Creates

-- the reply to a create without an identifier, from its place on; it is Made where an identifier is asked for
place_unmade : (w : Field → Value) (uses : List Use) (r : Reply) (dir : List ℕ) (c : Option (Option (List ℕ))) → (r ≡ reply.Made → ⊥) → (walk_along (known_with w) always (unless (taken_name c) (new_file dir None))).reply ≡ Some r → IsRight w uses r (unless (taken_name c) (new_file dir None))
place_unmade w uses r dir None other h = absurd (other (cc))
place_unmade w uses r dir (Some None) other h = absurd (other (cc))
place_unmade w uses r dir (Some (Some x)) other h = record { reply = h; covered = λ n i. absurd i }

dir_unmade : (w : Field → Value) (uses : List Use) (r : Reply) (dir name : List ℕ) (a : Option (Option Kind)) → (r ≡ reply.Made → ⊥) → (walk_along (known_with w) always (unless (no_dir a) (ask_place dir name None))).reply ≡ Some r → Covers uses (walk_along (known_with w) always (unless (no_dir a) (ask_place dir name None))).items → IsRight w uses r (unless (no_dir a) (ask_place dir name None))
dir_unmade w uses r dir name None other h cover = right_behind w uses r (Child dir name) Exclusive _ (cover (Child dir name) Exclusive (inl refl)) (place_unmade w uses r dir (child_told (Some (w (Child dir name)))) other h)
dir_unmade w uses r dir name (Some None) other h cover = record { reply = h; covered = λ n i. absurd i }
dir_unmade w uses r dir name (Some (Some File)) other h cover = record { reply = h; covered = λ n i. absurd i }
dir_unmade w uses r dir name (Some (Some Dir)) other h cover = right_behind w uses r (Child dir name) Exclusive _ (cover (Child dir name) Exclusive (inl refl)) (place_unmade w uses r dir (child_told (Some (w (Child dir name)))) other h)

create_unmade : (w : Field → Value) (uses : List Use) (r : Reply) (dir name : List ℕ) (kind : Kind) → (r ≡ reply.Made → ⊥) → (walk (known_with w) always (op.Create dir name kind None)).reply ≡ Some r → Covers uses (walk (known_with w) always (op.Create dir name kind None)).items → IsRight w uses r (script_of (op.Create dir name kind None))
create_unmade w uses r dir name kind other h cover = right_behind w uses r (Life dir) _ _ (cover (Life dir) _ (inl refl)) (dir_unmade w uses r dir name (life_told (Some (w (Life dir)))) other h (λ field kind i. cover field kind (inr i)))

-- where it is Made, an identifier was asked for
deeper_behind : (n : Need) (b : Bool) (w : Walk) (x : Need) → In x w.items → In x (behind n b w).items
deeper_behind n true w x i = inr i
deeper_behind n false w x i = inr i

pub reply_behind : (n : Need) (b : Bool) (w : Walk) (r : Reply) → (behind n b w).reply ≡ Some r → w.reply ≡ Some r
reply_behind n true w r h = h
reply_behind n false w r h = absurd (cc)

place_asked : (known : Known) (given : Given) (dir : List ℕ) (c : Option (Option (List ℕ))) → (walk_along known given (unless (taken_name c) (new_file dir None))).reply ≡ Some reply.Made → In (need.Fresh dir) (walk_along known given (unless (taken_name c) (new_file dir None))).items
place_asked known given dir None h = first_behind (need.Fresh dir) (given dir) _
place_asked known given dir (Some None) h = first_behind (need.Fresh dir) (given dir) _
place_asked known given dir (Some (Some x)) h = absurd (cc)

in_place_asked : (known : Known) (given : Given) (dir name : List ℕ) → (walk_along known given (ask_place dir name None)).reply ≡ Some reply.Made → In (need.Fresh dir) (walk_along known given (ask_place dir name None)).items
in_place_asked known given dir name h =
    let c = child_told (known (Child dir name) Exclusive) in
    let w : Walk = walk_along known given (unless (taken_name c) (new_file dir None)) in
    deeper_behind (need.Lease (Child dir name) Exclusive) (is_some (known (Child dir name) Exclusive)) w (need.Fresh dir) (place_asked known given dir c (reply_behind (need.Lease (Child dir name) Exclusive) (is_some (known (Child dir name) Exclusive)) w reply.Made h))

dir_asked : (known : Known) (given : Given) (dir name : List ℕ) (a : Option (Option Kind)) → (walk_along known given (unless (no_dir a) (ask_place dir name None))).reply ≡ Some reply.Made → In (need.Fresh dir) (walk_along known given (unless (no_dir a) (ask_place dir name None))).items
dir_asked known given dir name None h = in_place_asked known given dir name h
dir_asked known given dir name (Some None) h = absurd (cc)
dir_asked known given dir name (Some (Some File)) h = absurd (cc)
dir_asked known given dir name (Some (Some Dir)) h = in_place_asked known given dir name h

pub create_asked : (known : Known) (given : Given) (dir name : List ℕ) (kind : Kind) → (walk known given (op.Create dir name kind None)).reply ≡ Some reply.Made → In (need.Fresh dir) (walk known given (op.Create dir name kind None)).items
create_asked known given dir name kind h =
    let a = life_told (known (Life dir) Shared) in
    let w : Walk = walk_along known given (unless (no_dir a) (ask_place dir name None)) in
    deeper_behind (need.Lease (Life dir) Shared) (is_some (known (Life dir) Shared)) w (need.Fresh dir) (dir_asked known given dir name a (reply_behind (need.Lease (Life dir) Shared) (is_some (known (Life dir) Shared)) w reply.Made h))

-- and with the identifier named, of a file that does not live, it is Made as well
id_right : (w : Field → Value) (uses : List Use) (id : List ℕ) → w (Life id) ≡ value.Life None → HasUse uses (Life id) Exclusive → IsRight w uses reply.Made (new_file id (Some id))
id_right w uses id life own = right_behind w uses reply.Made (Life id) Exclusive _ own (record { reply = ap (λ v. Some (made_reply (life_told (Some v)))) life; covered = λ n i. absurd i })

place_right : (w : Field → Value) (uses : List Use) (dir id : List ℕ) (c : Option (Option (List ℕ))) → w (Life id) ≡ value.Life None → HasUse uses (Life id) Exclusive → (walk_along (known_with w) always (unless (taken_name c) (new_file dir None))).reply ≡ Some reply.Made → IsRight w uses reply.Made (unless (taken_name c) (new_file dir (Some id)))
place_right w uses dir id None life own h = id_right w uses id life own
place_right w uses dir id (Some None) life own h = id_right w uses id life own
place_right w uses dir id (Some (Some x)) life own h = absurd (cc)

dir_right : (w : Field → Value) (uses : List Use) (dir name id : List ℕ) (a : Option (Option Kind)) → w (Life id) ≡ value.Life None → HasUse uses (Life id) Exclusive → (walk_along (known_with w) always (unless (no_dir a) (ask_place dir name None))).reply ≡ Some reply.Made → Covers uses (walk_along (known_with w) always (unless (no_dir a) (ask_place dir name None))).items → IsRight w uses reply.Made (unless (no_dir a) (ask_place dir name (Some id)))
dir_right w uses dir name id None life own h cover = right_behind w uses reply.Made (Child dir name) Exclusive _ (cover (Child dir name) Exclusive (inl refl)) (place_right w uses dir id (child_told (Some (w (Child dir name)))) life own h)
dir_right w uses dir name id (Some None) life own h cover = absurd (cc)
dir_right w uses dir name id (Some (Some File)) life own h cover = absurd (cc)
dir_right w uses dir name id (Some (Some Dir)) life own h cover = right_behind w uses reply.Made (Child dir name) Exclusive _ (cover (Child dir name) Exclusive (inl refl)) (place_right w uses dir id (child_told (Some (w (Child dir name)))) life own h)

create_right : (w : Field → Value) (uses : List Use) (dir name id : List ℕ) (kind : Kind) → w (Life id) ≡ value.Life None → HasUse uses (Life id) Exclusive → (walk (known_with w) always (op.Create dir name kind None)).reply ≡ Some reply.Made → Covers uses (walk (known_with w) always (op.Create dir name kind None)).items → IsRight w uses reply.Made (script_of (op.Create dir name kind (Some id)))
create_right w uses dir name id kind life own h cover = right_behind w uses reply.Made (Life dir) _ _ (cover (Life dir) _ (inl refl)) (dir_right w uses dir name id (life_told (Some (w (Life dir)))) life own h (λ field kind i. cover field kind (inr i)))

-- ## All plain operations

-- an identifier that was asked for is offered, of a file that does not live, by a lease that was used
pub record IsGivenFor (w : Field → Value) (uses : List Use) (v : View) (now : ℕ) (dir : List ℕ) : Type 0 where
  pub id : List ℕ
  pub offered : fresh v now dir ≡ Some id
  pub unborn : w (Life id) ≡ value.Life None
  pub used : HasUse uses (Life id) Exclusive

pub right_with_id : (w : Field → Value) (uses : List Use) (v : View) (now : ℕ) (o : Op) (r : Reply) → tells_its_effects o ≡ true → may_ask o ≡ true → (walk (known_with w) always o).reply ≡ Some r → Covers uses (walk (known_with w) always o).items
    → ((dir : List ℕ) → In (need.Fresh dir) (walk (known_with w) always o).items → IsGivenFor w uses v now dir) → IsRight w uses r (script_of (with_id v now o r))
right_with_id w uses v now (op.Lookup dir name) r p m h cover ids = free_right w uses r (script_of (op.Lookup dir name)) (λ life. unless_free (no_dir (life_told life)) (ask_child dir name) (λ child. tt)) h cover
right_with_id w uses v now (op.List dir) r p m h cover ids = free_right w uses r (script_of (op.List dir)) (λ life. unless_free (no_dir (life_told life)) (ask_names dir) (λ names. tt)) h cover
right_with_id w uses v now (op.Kind file) r p m h cover ids = free_right w uses r (script_of (op.Kind file)) (λ life. tt) h cover
right_with_id w uses v now (op.Info file) r p m h cover ids = free_right w uses r (script_of (op.Info file)) (λ life. unless_free (no_file (life_told life)) (ask_info file) (λ info. tt)) h cover
right_with_id w uses v now (op.Create dir name kind (Some id)) r p m h cover ids = absurd (cc)
right_with_id w uses v now (op.Create dir name kind None) reply.Made p m h cover ids =
    let q : IsGivenFor w uses v now dir = ids dir (create_asked (known_with w) always dir name kind h) in
    subst (λ o. IsRight w uses reply.Made (script_of (op.Create dir name kind o))) (sym q.offered) (create_right w uses dir name q.id kind q.unborn q.used h cover)
right_with_id w uses v now (op.Create dir name kind None) r p m h cover ids = create_unmade w uses r dir name kind (λ e. absurd (cc)) h cover
right_with_id w uses v now (op.OpenFile file h modes) r p m e cover ids = free_right w uses r (script_of (op.OpenFile file h modes)) (λ life. unless_free (no_file (life_told life)) (ask_own file h modes) (λ own. open_with_free (own_told own) file h modes)) e cover
right_with_id w uses v now (op.Close file h) r p m e cover ids = free_right w uses r (script_of (op.Close file h)) (λ own. close_with_free (own_told own) file h) e cover
right_with_id w uses v now (op.Set file h size stamp) r p m e cover ids = free_right w uses r (script_of (op.Set file h size stamp)) (λ own. unless_free (no_set (own_told own) h) (ask_size file) (λ info. tt)) e cover
right_with_id w uses v now (op.Delete dir name) r p m h cover ids = absurd (cc)
right_with_id w uses v now (op.Rename sdir sname ddir dname) r p m h cover ids = absurd (cc)
right_with_id w uses v now (op.Reap file session) r p m h cover ids = absurd (cc)

-- ## The file that the entry names

-- where the operation of the entry names an identifier, it is one that was asked for and offered
pub record IsNamedFor (v : View) (now : ℕ) (o : Op) (r : Reply) (id : List ℕ) : Type 0 where
  pub dir : List ℕ
  pub asked : (known : Known) (given : Given) → (walk known given o).reply ≡ Some r → In (need.Fresh dir) (walk known given o).items
  pub offered : fresh v now dir ≡ Some id

pub named_for : (v : View) (now : ℕ) (o : Op) (r : Reply) (id : List ℕ) → may_ask o ≡ true → named_by (with_id v now o r) ≡ Some id → IsNamedFor v now o r id
named_for v now (op.Create dir name kind None) reply.Made id m h = record { dir = dir; asked = λ known given e. create_asked known given dir name kind e; offered = h }
named_for v now (op.Create dir name kind None) r id m h = absurd (cc)
named_for v now (op.Create dir name kind (Some new)) r id m h = absurd (cc)
named_for v now o r id m h = absurd (cc)

-- what may be asked stays plain, with an identifier too
pub plain_with_id : (v : View) (now : ℕ) (o : Op) (r : Reply) → tells_its_effects o ≡ true → tells_its_effects (with_id v now o r) ≡ true
plain_with_id v now (op.Create dir name kind id) reply.Made p = refl
plain_with_id v now (op.Create dir name kind id) r p = refl
plain_with_id v now o r p = p

pub access_with_id : (v : View) (now : ℕ) (o : Op) (r : Reply) → AsksAccess o → AsksAccess (with_id v now o r)
access_with_id v now (op.Create dir name kind id) reply.Made a = tt
access_with_id v now (op.Create dir name kind id) r a = tt
access_with_id v now o r a = a

-- the entry names its file where an identifier that was asked for is reserved
pub names_its_file : (uses : List Use) (v : View) (now : ℕ) (o : Op) (r : Reply) (known : Known) (given : Given) → may_ask o ≡ true → (walk known given o).reply ≡ Some r
    → ((dir : List ℕ) → In (need.Fresh dir) (walk known given o).items → (id : List ℕ) × (fresh v now dir ≡ Some id) × NamesReserved uses dir id) → NamesItsFile uses (with_id v now o r) r
names_its_file uses v now (op.Create dir name kind (Some id)) r known given m h ids = absurd (cc)
names_its_file uses v now (op.Create dir name kind None) reply.Made known given m h ids =
    let q = ids dir (create_asked known given dir name kind h) in
    subst (λ o. NamesItsFile uses (op.Create dir name kind o) reply.Made) (sym q.1) q.2
names_its_file uses v now (op.Create dir name kind None) r known given m h ids = tt
names_its_file uses v now o r known given m h ids = tt
