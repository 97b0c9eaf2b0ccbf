-- What an operation asks for is on the file where it is handed in, and of the kind that is given.
use Rattle.std.proofs.Common.{◌≡◌, ℕ, ◌||◌, ◌&&◌, Bool, true, false, List, [], ◌∷◌, cond, refl, sym, ◌∙◌, subst, inl, inr}
use Rattle.std.specs.Prelude.{Option, Some, None, is_some}
use Rattle.fs_ident.specs.In.{In}
use Rattle.fs_modes.specs.declared.modes.Mode.{Mode}
use Rattle.fs_modes.specs.declared.modes.Modes.{Modes}
use Rattle.fs_modes.specs.Modes.{opposing}
use Rattle.fs_field.specs.declared.asked.Need.{Need}
use Rattle.fs_field.specs.declared.asked.Need.TheVariants as need
use Rattle.fs_field.specs.declared.value.Value.{Value}
use Rattle.fs_field.specs.After.{Handles}
use Rattle.fs_field.specs.Field.{file_of}
use Rattle.fs_model.specs.declared.op.Op.{Op}
use Rattle.fs_model.specs.declared.op.Op.TheVariants as op
use Rattle.fs_model.specs.declared.reply.Reply.{Reply}
use Rattle.fs_model.specs.declared.reply.Reply.TheVariants as reply
use Rattle.fs_model.specs.Asking.{home_of, may_ask}
use Rattle.fs_client.specs.Acts.{with_id}
use Rattle.fs_server.specs.Asks.{kind_for}
use Rattle.fs_view.specs.Script.{Script, answer, ask, give, unless, no_dir, no_file, taken_name, ask_child, ask_names, ask_info, ask_place, new_file, ask_others, ask_selves, modes_on, modes_off, open_free, open_with, close_with, ask_own, no_set, ask_size, script_of}
use Rattle.fs_view.specs.Told.{life_told, child_told, own_told, is_other_told, modes_under, own_conflicts, modes_listed}
use Rattle.fs_view.specs.View.{View, fresh}
use Rattle.fs_view.specs.Walk.{Known, Given, walk_along, behind}
use Rattle.fs_view.specs.declared.walk.Walk.{Walk}
use Rattle.fs_serial.specs.Pending.{named_by}
use Rattle.fs_record.specs.Effects.{tells_its_effects}
use Rattle.fs_serial.proofs.Replies.Naming.{reply_behind}

-- a lease of the kind that is given, on the file
abbrev pub IsAtHome : List ℕ → Need → Type 0
IsAtHome home (need.Lease field kind) = (kind_for field kind ≡ kind) × (file_of field ≡ home)
IsAtHome home (need.Fresh dir) = Unit {0}

-- the operation may ask for an identifier
abbrev pub MayGive : Op → Type 0
MayGive (op.Create dir name kind None) = Unit {0}
MayGive o = ⊥

-- and where it got one, all is done
abbrev IsMadeThen : Script → Type 0
IsMadeThen (answer r) = r ≡ reply.Made
IsMadeThen s = ⊥

-- a script that asks for nothing else, where it may ask for identifiers
abbrev AsksAtHome : Type 0 → List ℕ → Script → Type 0
AsksAtHome gives home (answer r) = Unit {0}
AsksAtHome gives home (ask field kind go) = (kind_for field kind ≡ kind) × (file_of field ≡ home) × ((v : Option Value) → AsksAtHome gives home (go v))
AsksAtHome gives home (give dir go) = gives × (dir ≡ home) × IsMadeThen go

unless_home : (gives : Type 0) (home : List ℕ) (o : Option Reply) (s : Script) → AsksAtHome gives home s → AsksAtHome gives home (unless o s)
unless_home gives home (Some r) s h = tt
unless_home gives home None s h = h

either_home : (gives : Type 0) (home : List ℕ) (b : Bool) (s t : Script) → AsksAtHome gives home s → AsksAtHome gives home t → AsksAtHome gives home (cond b s t)
either_home gives home true s t h k = h
either_home gives home false s t h k = k

behind_home : (home : List ℕ) (n : Need) (b : Bool) (w : Walk) → IsAtHome home n → ((x : Need) → In x w.items → IsAtHome home x) → (x : Need) → In x (behind n b w).items → IsAtHome home x
behind_home home n true w h rec x (inl e) = subst (IsAtHome home) (sym e) h
behind_home home n true w h rec x (inr i) = rec x i
behind_home home n false w h rec x (inl e) = subst (IsAtHome home) (sym e) h
behind_home home n false w h rec x (inr i) = rec x i

made_items : (known : Known) (given : Given) (go : Script) (n : Need) → IsMadeThen go → In n (walk_along known given go).items → ⊥
made_items known given (answer r) n h i = i
made_items known given (ask field kind go) n h i = h
made_items known given (give dir go) n h i = h

pub items_home : (gives : Type 0) (known : Known) (given : Given) (home : List ℕ) (s : Script) → AsksAtHome gives home s → (n : Need) → In n (walk_along known given s).items → IsAtHome home n
items_home gives known given home (answer r) h n i = absurd i
items_home gives known given home (ask field kind go) h n i = behind_home home (need.Lease field kind) (is_some (known field kind)) (walk_along known given (go (known field kind))) (h.0, h.1) (items_home gives known given home (go (known field kind)) (h.2 (known field kind))) n i
items_home gives known given home (give dir go) h n i = behind_home home (need.Fresh dir) (given dir) (walk_along known given go) tt (λ x j. absurd (made_items known given go x h.2 j)) n i

-- ## Identifiers

-- the operation may ask for it, below the file, and the reply is Made
pub record IsGivenHere (gives : Type 0) (home dir : List ℕ) (r : Reply) : Type 0 where
  pub allowed : gives
  pub below : dir ≡ home
  pub made : r ≡ reply.Made

in_behind : (n x : Need) (b : Bool) (w : Walk) → In x (behind n b w).items → (x ≡ n → ⊥) → In x w.items
in_behind n x true w (inl e) other = absurd (other e)
in_behind n x true w (inr i) other = i
in_behind n x false w (inl e) other = absurd (other e)
in_behind n x false w (inr i) other = i

made_reply_is : (known : Known) (given : Given) (go : Script) (r : Reply) → IsMadeThen go → (walk_along known given go).reply ≡ Some r → r ≡ reply.Made
made_reply_is known given (answer x) r h e = let q : x ≡ r = cc in sym q ∙ h
made_reply_is known given (ask field kind go) r h e = absurd h
made_reply_is known given (give dir go) r h e = absurd h

first_given : (gives : Type 0) (known : Known) (given : Given) (home dir : List ℕ) (go : Script) (d : List ℕ) (r : Reply) → gives → dir ≡ home → IsMadeThen go → (x : Need) → x ≡ need.Fresh d → In x (behind (need.Fresh dir) (given dir) (walk_along known given go)).items → (walk_along known given go).reply ≡ Some r → IsGivenHere gives home d r
first_given gives known given home dir go d r g at m x is i e =
    let done : r ≡ reply.Made = made_reply_is known given go r m e in
    within (given dir) i
  where
    within : (b : Bool) → In x (behind (need.Fresh dir) b (walk_along known given go)).items → IsGivenHere gives home d r
    within true (inl q) = let same : need.Fresh d ≡ need.Fresh dir = sym is ∙ q in let p : d ≡ dir = cc in record { allowed = g; below = p ∙ at; made = made_reply_is known given go r m e }
    within true (inr j) = absurd (made_items known given go x m j)
    within false (inl q) = let same : need.Fresh d ≡ need.Fresh dir = sym is ∙ q in let p : d ≡ dir = cc in record { allowed = g; below = p ∙ at; made = made_reply_is known given go r m e }
    within false (inr j) = absurd (made_items known given go x m j)

pub given_home : (gives : Type 0) (known : Known) (given : Given) (home : List ℕ) (s : Script) → AsksAtHome gives home s → (d : List ℕ) (r : Reply) → In (need.Fresh d) (walk_along known given s).items → (walk_along known given s).reply ≡ Some r → IsGivenHere gives home d r
given_home gives known given home (answer x) h d r i e = absurd i
given_home gives known given home (ask field kind go) h d r i e =
    let w : Walk = walk_along known given (go (known field kind)) in
    given_home gives known given home (go (known field kind)) (h.2 (known field kind)) d r
    (in_behind (need.Lease field kind) (need.Fresh d) (is_some (known field kind)) w i (λ q. cc))
    (reply_behind (need.Lease field kind) (is_some (known field kind)) w r e)
given_home gives known given home (give dir go) h d r i e = first_given gives known given home dir go d r h.0 h.1 h.2 (need.Fresh d) refl i (reply_behind (need.Fresh dir) (given dir) (walk_along known given go) r e)

-- a create that is made names what the view offers
pub names_fresh : (v : View) (now : ℕ) (o : Op) (r : Reply) → MayGive o → r ≡ reply.Made → named_by (with_id v now o r) ≡ fresh v now (home_of o)
names_fresh v now (op.Create dir name kind None) reply.Made g e = refl
names_fresh v now (op.Create dir name kind None) r g e = absurd (cc)
names_fresh v now (op.Create dir name kind (Some id)) r g e = absurd g
names_fresh v now o r g e = absurd g

pub home_with_id : (v : View) (now : ℕ) (o : Op) (r : Reply) → home_of (with_id v now o r) ≡ home_of o
home_with_id v now (op.Create dir name kind id) reply.Made = refl
home_with_id v now (op.Create dir name kind id) r = refl
home_with_id v now o r = refl

-- ## Opens, closes and sets

module _ (gives : Type 0) (file : List ℕ) where
  others_home : (r : Reply) (modes : List Mode) (found : Bool) (go : Script) → AsksAtHome gives file go → AsksAtHome gives file (ask_others r modes file found go)
  others_home r [] true go h = tt
  others_home r [] false go h = h
  others_home r (m ∷ ms) found go h = (refl, refl, λ v. others_home r ms (found || is_other_told v) go h)

  selves_home : (modes : List Mode) (r : Reply) → AsksAtHome gives file (ask_selves modes file r)
  selves_home [] r = tt
  selves_home (m ∷ ms) r = (refl, refl, λ v. selves_home ms r)

  free_home : (b : Bool) (own : Handles) (modes : Modes) → AsksAtHome gives file (open_free b own file modes)
  free_home true own modes = tt
  free_home false own modes = others_home reply.Sharing (modes_listed (opposing modes)) false (ask_selves (modes_listed (modes_on own modes)) file reply.Opened) (selves_home (modes_listed (modes_on own modes)) reply.Opened)

  open_home : (own : Option Handles) (h : ℕ) (modes : Modes) → AsksAtHome gives file (open_with own file h modes)
  open_home None h modes = others_home reply.Sharing (modes_listed (opposing modes)) false (answer reply.Opened) tt
  open_home (Some own) h modes = either_home gives file (is_some (modes_under own h)) (answer reply.HandleUsed) (open_free (own_conflicts own modes) own file modes) tt (free_home (own_conflicts own modes) own modes)

  close_home : (own : Option Handles) (h : ℕ) → AsksAtHome gives file (close_with own file h)
  close_home None h = tt
  close_home (Some own) h = either_home gives file (is_some (modes_under own h)) (ask_selves (modes_listed (modes_off own h)) file reply.Closed) (answer reply.NoHandle) (selves_home (modes_listed (modes_off own h)) reply.Closed) tt

-- ## Every operation that a caller asks for

pub called_home : (o : Op) → (tells_its_effects o && may_ask o) ≡ true → AsksAtHome (MayGive o) (home_of o) (script_of o)
called_home (op.Lookup dir name) h = (refl, refl, λ life. unless_home ⊥ dir (no_dir (life_told life)) (ask_child dir name) (refl, refl, λ child. tt))
called_home (op.List dir) h = (refl, refl, λ life. unless_home ⊥ dir (no_dir (life_told life)) (ask_names dir) (refl, refl, λ names. tt))
called_home (op.Kind file) h = (refl, refl, λ life. tt)
called_home (op.Info file) h = (refl, refl, λ life. unless_home ⊥ file (no_file (life_told life)) (ask_info file) (refl, refl, λ info. tt))
called_home (op.Create dir name kind None) h =
    (refl, refl, λ life. unless_home (Unit {0}) dir (no_dir (life_told life)) (ask_place dir name None) (refl, refl, λ child. unless_home (Unit {0}) dir (taken_name (child_told child)) (new_file dir None) (tt, refl, refl)))
called_home (op.OpenFile file handle modes) h = (refl, refl, λ life. unless_home ⊥ file (no_file (life_told life)) (ask_own file handle modes) (refl, refl, λ own. open_home ⊥ file (own_told own) handle modes))
called_home (op.Close file handle) h = (refl, refl, λ own. close_home ⊥ file (own_told own) handle)
called_home (op.Set file handle size stamp) h = (refl, refl, λ own. unless_home ⊥ file (no_set (own_told own) handle) (ask_size file) (refl, refl, λ info. tt))
called_home o h = absurd (cc)
