-- Votes that are all Yes; and the directory that loses a name: a delete or a rename asks first whether it lives, and it has a part of its own.
use Rattle.std.proofs.Common.{◌≡◌, ℕ, zero, suc, Bool, true, false, List, [], ◌∷◌, ◌++◌, refl, sym, ap, subst, cond}
use Rattle.std.specs.Prelude.{◌||◌, Option, Some, None, is_some, slice_get}
use Rattle.std.specs.FinMap.{get}
use Rattle.std.specs.List.{list_any}
use Rattle.fs_ident.specs.Ident.{same}
use Rattle.fs_ident.specs.In.{In}
use Rattle.fs_ident.proofs.Same.{same_is, same_self}
use Rattle.fs_ident.proofs.Standing.{In-front, In-last, any_In}
use Rattle.fs_field.specs.declared.asked.Need.TheVariants as need
use Rattle.fs_field.specs.declared.field.Field.TheVariants.{Life}
use Rattle.fs_field.specs.declared.lease_kind.LeaseKind.TheVariants.{Shared}
use Rattle.fs_field.specs.declared.used.Use.{Use}
use Rattle.fs_field.specs.declared.vote.Vote.{Vote}
use Rattle.fs_field.specs.declared.vote.Vote.TheVariants.{Yes, Ended, PathsOut, Moved}
use Rattle.fs_model.specs.Asking.{home_of}
use Rattle.fs_model.specs.Namespace.{NodeMap}
use Rattle.fs_model.specs.Sound.{child_of}
use Rattle.fs_model.specs.declared.op.Op.{Op}
use Rattle.fs_model.specs.declared.op.Op.TheVariants as op
use Rattle.fs_record.specs.LedEffects.{moves_or_removes, named_file}
use Rattle.fs_txn.specs.Deciding.{first_end}
use Rattle.fs_txn.specs.Parts.{led_files, part_at, source_of, with_file}
use Rattle.fs_txn.specs.declared.mode.Mode2.TheVariants.{Freeze}
use Rattle.fs_view.specs.Walk.{Given, Known, walk}
use Rattle.fs_serial.proofs.LedOperations.MovedItems.{stands_first}

-- ## Votes

-- where no vote ends it, each is Yes
pub all_yes : (votes : List (Option Vote)) → first_end votes ≡ None → (n : ℕ) (v : Option Vote) → slice_get votes n ≡ Some v → v ≡ Some Yes
all_yes [] none n v e = absurd (cc e)
all_yes (None ∷ vs) none n v e = absurd (cc none)
all_yes (Some Yes ∷ vs) none zero v e = let same_vote : Some Yes ≡ v = cc e in sym same_vote
all_yes (Some Yes ∷ vs) none (suc n) v e = all_yes vs none n v e
all_yes (Some (Ended a b w) ∷ vs) none n v e = absurd (cc none)
all_yes (Some (PathsOut a) ∷ vs) none n v e = absurd (cc none)
all_yes (Some (Moved a b) ∷ vs) none n v e = absurd (cc none)

-- ## The directory that loses a name

-- each such operation asks first whether it lives
pub asks_source : (known : Known) (given : Given) (o : Op) → moves_or_removes o ≡ true
    → In (need.Lease (Life (source_of o)) Shared) (walk known given o).items
asks_source known given (op.Rename sdir sname ddir dname) h =
    stands_first (need.Lease (Life sdir) Shared) (is_some (known (Life sdir) Shared)) _
asks_source known given (op.Delete dir name) h = stands_first (need.Lease (Life dir) Shared) (is_some (known (Life dir) Shared)) _
asks_source known given (op.Lookup dir name) h = absurd (cc h)
asks_source known given (op.List dir) h = absurd (cc h)
asks_source known given (op.Kind f) h = absurd (cc h)
asks_source known given (op.Info f) h = absurd (cc h)
asks_source known given (op.Create dir name k id) h = absurd (cc h)
asks_source known given (op.OpenFile f n modes) h = absurd (cc h)
asks_source known given (op.Close f n) h = absurd (cc h)
asks_source known given (op.Set f n size stamp) h = absurd (cc h)
asks_source known given (op.Reap f session) h = absurd (cc h)

-- the file stands in it under a name
abbrev pub IsIn : NodeMap → List ℕ → List ℕ → Type 0
IsIn m file dir = (name : List ℕ) × (child_of (get m dir) name ≡ Some file)

pub in_source : (m : NodeMap) (o : Op) (file : List ℕ) → moves_or_removes o ≡ true → named_file m o ≡ Some file → IsIn m file (source_of o)
in_source m (op.Rename sdir sname ddir dname) file h named = (sname, named)
in_source m (op.Delete dir name) file h named = (name, named)
in_source m (op.Lookup dir name) file h named = absurd (cc h)
in_source m (op.List dir) file h named = absurd (cc h)
in_source m (op.Kind f) file h named = absurd (cc h)
in_source m (op.Info f) file h named = absurd (cc h)
in_source m (op.Create dir name k id) file h named = absurd (cc h)
in_source m (op.OpenFile f n modes) file h named = absurd (cc h)
in_source m (op.Close f n) file h named = absurd (cc h)
in_source m (op.Set f n size stamp) file h named = absurd (cc h)
in_source m (op.Reap f session) file h named = absurd (cc h)

-- it has a part, which keeps the file in a transaction that freezes
among_files : (file : List ℕ) (files : List (List ℕ)) → In file (with_file file files)
among_files file files = by (list_any (λ f. same f file) files) refl
  where
    by : (b : Bool) → list_any (λ f. same f file) files ≡ b → In file (cond b files (files ++ file ∷ []))
    by true e = let q = any_In (λ f. same f file) files e in subst (λ x. In x files) (same_is q.0 file q.1.1) q.1.0
    by false e = In-last files file

among_more : (x file : List ℕ) (files : List (List ℕ)) → In x files → In x (with_file file files)
among_more x file files i = elim (list_any (λ f. same f file) files) as (λ b. In x (cond b files (files ++ file ∷ []))) [
  | true ↦ i
  | false ↦ In-front x files (file ∷ []) i
]

pub source_among : (o : Op) (file : List ℕ) → In (source_of o) (led_files o file)
source_among o file = among_more (source_of o) file (with_file (source_of o) (home_of o ∷ [])) (among_files (source_of o) (home_of o ∷ []))

pub source_keeps : (o : Op) (file : List ℕ) (uses : List Use) → (part_at Freeze o file uses (source_of o)).freeze ≡ Some file
source_keeps o file uses = ap (λ b. cond b (Some file) None) (ap (λ b. b || same (source_of o) file) (same_self (source_of o)))
