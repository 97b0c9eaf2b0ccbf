-- What is read of the rows on a list of names, through the numbers on the children of its directory.
use Rattle.std.proofs.Common.{◌≡◌, ◌==◌, ◌&&◌, ◌||◌, ◌∷◌, ◌++◌, ℕ, Bool, true, false, not, List, [], refl, ap, cond, sym, ◌∙◌}
use Rattle.std.specs.Prelude.{Option, Some, None}
use Rattle.std.specs.List.{filter, find}
use Rattle.std.specs.Option.{option_map}
use Rattle.std.specs.Map.{lookup}
use Rattle.std.specs.BTreeMap.{BTreeMap, is_at}
use Rattle.std.specs.FinMap.{get}
use Rattle.std.specs.Ordering.{nat_cmp}
use Rattle.std.specs.Cmp.Lexicographic.{slice_cmp, nat_list_eq_equiv}
use Rattle.std.proofs.lemmas.List.Folds.{list_any-append}
use Rattle.std.proofs.Math.Bool.{or-false}
use Rattle.fs_ident.specs.Maps.{map_of}
use Rattle.fs_ident.specs.In.{In}
use Rattle.fs_ident.specs.Ident.{same}
use Rattle.fs_ident.specs.declared.actor.LeaseNo.{LeaseNo}
use Rattle.fs_ident.specs.declared.actor.Session.{Session}
use Rattle.fs_ident.proofs.Booleans.{joined, second}
use Rattle.fs_ident.proofs.MapsOf.{map_of_get}
use Rattle.fs_field.specs.declared.field.Field.{Field}
use Rattle.fs_field.specs.declared.field.Field.TheVariants.{Child, Names}
use Rattle.fs_field.specs.declared.lease_kind.LeaseKind.{LeaseKind}
use Rattle.fs_field.specs.declared.row.Row.{Row}
use Rattle.fs_field.specs.Conflict.{meets, is_exclusive, stands_against}
use Rattle.fs_field.specs.Field.{file_of, same_field}
use Rattle.fs_field.specs.Table.{is_ordered}
use Rattle.fs_rows.specs.declared.index.FieldIndex.{FieldIndex}
use Rattle.fs_rows.specs.declared.index.OnFile.{OnFile}
use Rattle.fs_rows.specs.Index.{children_of, has_number, is_listed, listed, numbers_at, numbers_of, IsIndexOf}
use Rattle.fs_rows.specs.Sought.{is_list, lesser_row}
use Rattle.fs_rows.proofs.Reading.{found_live, within, spread, only, first_of, turn}
use Rattle.fs_rows.proofs.Seeking.{find_alike, first_of_either, both_or}
use Rattle.fs_rows.proofs.Tied.{told_of}

abbrev Test : Type 0
Test = Row → Bool

abbrev Entries : Type 0
Entries = List (List ℕ × List LeaseNo)

-- ## The first of the rows of several names

pub none_named : (t : Test) (rows : List Row) → None ≡ find (λ r. is_listed r.no [] && t r) rows
none_named t [] = refl
none_named t (r ∷ rs) = none_named t rs

-- one name further
pub named_step : (t : Test) (rows : List Row) (done : Entries) (e : List ℕ × List LeaseNo) (least next : Option Row) → is_ordered rows ≡ true
    → least ≡ find (λ r. is_listed r.no done && t r) rows → next ≡ find (λ r. has_number r.no e.1 && t r) rows → lesser_row least next ≡ find (λ r. is_listed r.no (done ++ e ∷ []) && t r) rows
named_step t rows done e least next o a b =
    ap (λ x. lesser_row x next) a ∙ ap (lesser_row (find (λ r. is_listed r.no done && t r) rows)) b
    ∙ sym (first_of_either (λ r. is_listed r.no done && t r) (λ r. has_number r.no e.1 && t r) rows o)
    ∙ find_alike (λ r. (is_listed r.no done && t r) || (has_number r.no e.1 && t r)) (λ r. is_listed r.no (done ++ e ∷ []) && t r) rows (λ r j.
    sym (ap (λ b. b && t r) (list_any-append (λ n. has_number r.no n.1) done (e ∷ []) ∙ ap (λ b. is_listed r.no done || b) (or-false (has_number r.no e.1)))
    ∙ both_or (is_listed r.no done) (has_number r.no e.1) (t r)))

-- ## Where the numbers of children stand

second_of : (a b : Bool) → b ≡ true → (a || b) ≡ true
second_of true b h = refl
second_of false b h = h

looked : (test : List ℕ → Bool) (n : LeaseNo) (es : Entries) → has_number n (listed (lookup test es)) ≡ true → is_listed n es ≡ true
looked test n [] h = absurd (cc)
looked test n (e ∷ es) h = elim (test e.0) as (λ b. has_number n (listed (cond b (Some e.1) (lookup test es))) ≡ true → (has_number n e.1 || is_listed n es) ≡ true) [
  | true ↦ λ g. first_of (has_number n e.1) (is_listed n es) g
  | false ↦ λ g. second_of (has_number n e.1) (is_listed n es) (looked test n es g)
] h

listed_there : (m : BTreeMap (List ℕ) (List LeaseNo)) (name : List ℕ) (n : LeaseNo) → has_number n (listed (get (map_of m) name)) ≡ true → is_listed n m.entries ≡ true
listed_there m name n h = looked (is_at (slice_cmp nat_cmp name)) n m.entries (ap (λ x. has_number n (listed x)) (sym (map_of_get m name)) ∙ h)

some_there : (on_file : Option OnFile) (m : BTreeMap (List ℕ) (List LeaseNo)) → Some m ≡ option_map children_of on_file → (dir name : List ℕ) (n : LeaseNo) → has_number n (numbers_at on_file (Child dir name)) ≡ true → is_listed n m.entries ≡ true
some_there None m e dir name n h = absurd (cc)
some_there (Some o) m e dir name n h = let q : o.children ≡ m = cc in listed_there m name n (ap (λ x. has_number n (listed (get (map_of x) name))) (sym q) ∙ h)

none_there : (on_file : Option OnFile) → None ≡ option_map children_of on_file → (dir name : List ℕ) (n : LeaseNo) → has_number n (numbers_at on_file (Child dir name)) ≡ true → false ≡ true
none_there None e dir name n h = h
none_there (Some o) e dir name n h = absurd (cc)

-- ## What stands against a list of names

-- a row against it is on the list, or on a child of its directory
near_list : (g : Field) (on : Field → Bool) (dir : List ℕ) (k l : LeaseKind) (named : Bool) → ((f : Field) → on f ≡ same_field g f) → ((name : List ℕ) → on (Child dir name) ≡ true → named ≡ true) → meets (Names dir) k g l ≡ true → (on (Names dir) || named) ≡ true
near_list (Names a) on dir k l named told there h = first_of (on (Names dir)) named (told (Names dir) ∙ turn dir a (only (same dir a) (is_exclusive k || is_exclusive l) h))
near_list (Child a n) on dir k l named told there h = second_of (on (Names dir)) named (there n (told (Child dir n) ∙ joined (same a dir) (same n n) (turn dir a (only (same dir a) (is_exclusive l) h)) (nat_list_eq_equiv.refl n)))
near_list g on dir k l named told there h = absurd (cc)

either_told : (p q t live : Test) (rows : List Row) → is_ordered rows ≡ true → ((r : Row) → In r rows → t r ≡ true → (p r || q r) ≡ true)
    → lesser_row (find (λ r. p r && (live r && t r)) rows) (find (λ r. q r && (live r && t r)) rows) ≡ find t (filter live rows)
either_told p q t live rows o h =
    sym (first_of_either (λ r. p r && (live r && t r)) (λ r. q r && (live r && t r)) rows o)
    ∙ find_alike (λ r. (p r && (live r && t r)) || (q r && (live r && t r))) (λ r. live r && t r) rows (λ r i. spread (p r) (q r) (live r && t r) ∙ within (p r || q r) (live r) (t r) (h r i))
    ∙ found_live t live rows

alone_told : (p t live : Test) (rows : List Row) → ((r : Row) → In r rows → t r ≡ true → p r ≡ true) → find (λ r. p r && (live r && t r)) rows ≡ find t (filter live rows)
alone_told p t live rows h =
    find_alike (λ r. p r && (live r && t r)) (λ r. live r && t r) rows (λ r i. within (p r) (live r) (t r) (h r i))
    ∙ found_live t live rows

pub listed_told : (index : FieldIndex) (rows : List Row) → is_ordered rows ≡ true → index.whole ≡ true → IsIndexOf index rows → (s : Session) (f : Field) (k : LeaseKind) (live : Test) → is_list f ≡ true
    → (m : BTreeMap (List ℕ) (List LeaseNo)) → Some m ≡ option_map children_of (get (map_of index.files) (file_of f))
    → lesser_row (find (λ r. has_number r.no (numbers_of index.files f) && (live r && stands_against s f k r)) rows) (find (λ r. is_listed r.no m.entries && (live r && stands_against s f k r)) rows) ≡ find (stands_against s f k) (filter live rows)
listed_told index rows o w h s (Names dir) k live l m e =
    either_told (λ r. has_number r.no (numbers_of index.files (Names dir))) (λ r. is_listed r.no m.entries) (stands_against s (Names dir) k) live rows o (λ r i t.
    near_list r.field (λ f. has_number r.no (numbers_of index.files f)) dir k r.kind (is_listed r.no m.entries) (λ f. told_of index rows o w h f r i) (λ name g. some_there (get (map_of index.files) dir) m e dir name r.no g)
    (second (not (s.0 == r.session.0)) (meets (Names dir) k r.field r.kind) t))
listed_told index rows o w h s f k live l m e = absurd (cc)

pub unlisted_told : (index : FieldIndex) (rows : List Row) → is_ordered rows ≡ true → index.whole ≡ true → IsIndexOf index rows → (s : Session) (f : Field) (k : LeaseKind) (live : Test) → is_list f ≡ true
    → None ≡ option_map children_of (get (map_of index.files) (file_of f))
    → find (λ r. has_number r.no (numbers_of index.files f) && (live r && stands_against s f k r)) rows ≡ find (stands_against s f k) (filter live rows)
unlisted_told index rows o w h s (Names dir) k live l e =
    alone_told (λ r. has_number r.no (numbers_of index.files (Names dir))) (stands_against s (Names dir) k) live rows (λ r i t.
    sym (or-false (has_number r.no (numbers_of index.files (Names dir))))
    ∙ near_list r.field (λ f. has_number r.no (numbers_of index.files f)) dir k r.kind false (λ f. told_of index rows o w h f r i) (λ name g. none_there (get (map_of index.files) dir) e dir name r.no g)
    (second (not (s.0 == r.session.0)) (meets (Names dir) k r.field r.kind) t))
unlisted_told index rows o w h s f k live l e = absurd (cc)
