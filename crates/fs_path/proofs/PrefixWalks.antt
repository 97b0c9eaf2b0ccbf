-- The names below a prefix, as the range of an index has them: those of the leases that go into that part of the files.
use Rattle.std.proofs.Common.{◌≡◌, ◌∙◌, ◌&&◌, ◌||◌, ◌==◌, ◌+◌, ◌<◌, ℕ, length, get_or, drop, Bool, true, false, not, List, [], ◌∷◌, ◌++◌, refl, ap, cond, sym, subst, map, inl, inr}
use Rattle.std.specs.Prelude.{Option, Some, None}
use Rattle.std.specs.List.{filter, find, list_all, list_any}
use Rattle.std.specs.List.Sorted.{IsStrictlySortedBy}
use Rattle.std.specs.Map.{keys_of}
use Rattle.std.specs.BTreeMap.Range.{entries_between}
use Rattle.std.specs.declared.ops.Bound.TheVariants.{Included, Unbounded}
use Rattle.std.specs.Ordering.{nat_cmp, is_le}
use Rattle.std.specs.Cmp.Lexicographic.{slice_cmp}
use Rattle.std.specs.FinMap.{entries, find as find_entry, get-entries, entries_sorted, is_sorted}
use Rattle.std.specs.FinMap.Entries.{below_all}
use Rattle.std.proofs.Math.Bool.{or-false}
use Rattle.std.proofs.lemmas.List.{drop_more}
use Rattle.std.proofs.lemmas.List.Folds.{list_any-append}
use Rattle.fs_ident.specs.In.{In}
use Rattle.fs_ident.specs.Ident.{same}
use Rattle.fs_ident.specs.Maps.{map_of}
use Rattle.fs_ident.specs.Ordered.{Keyed}
use Rattle.fs_ident.specs.declared.actor.PathNo.{PathNo}
use Rattle.fs_ident.proofs.Booleans.{both, first, holds, joined, less, second}
use Rattle.fs_ident.proofs.MapsOf.{map_of_entries}
use Rattle.fs_ident.proofs.Passing.{all-In}
use Rattle.fs_ident.proofs.Same.{same_is, same_self}
use Rattle.fs_ident.proofs.Standing.{In-append, any_In}
use Rattle.fs_map.specs.Map.{Owners, begins, is_given, server_of}
use Rattle.fs_map.proofs.Found.{In_found}
use Rattle.fs_record.proofs.Parting.{between}
use Rattle.fs_path.specs.Index.{AreOver, ByFile, IsOver, IsVia, are_rising, is_numbered, listed, no_of_held, no_of_issued, no_of_named, with_named}
use Rattle.fs_path.specs.Into.{given_names, is_free, is_named, names_from, names_into, names_there, names_under, rests_on, with_under}
use Rattle.fs_path.specs.Leases.{PathLease, goes_into, goes_over, named_to_peer, path_before, same_path_no}
use Rattle.fs_path.specs.Merged.{with_each, with_once}
use Rattle.fs_path.specs.Returns.{goes_back, is_asked_in, is_into, is_needed, is_of, recalls, releases, rests_on_asked}
use Rattle.fs_path.specs.Tables.{lease_of}
use Rattle.fs_path.specs.declared.having.Having.{Having}
use Rattle.fs_path.specs.declared.index.FileIndex.{FileIndex}
use Rattle.fs_path.proofs.Least.{from_there, has_key, listed_some, not_below, second_or, some_In}
use Rattle.fs_path.proofs.Merges.{recalls_In}
use Rattle.fs_path.proofs.Over.{all_names, name_first, some_named}
use Rattle.fs_path.proofs.Rising.{none_behind, not_back, rising_map, same_no_self, same_no_symm, unlike}

abbrev Names : Type 0
Names = List (ℕ × PathNo)

abbrev Test : Type 0
Test = PathLease → Bool

-- ## Tests

pub recalls_alike : (a b : Test) (issued : List PathLease) → ((l : PathLease) → In l issued → a l ≡ b l) → recalls a issued ≡ recalls b issued
recalls_alike a b [] same = refl
recalls_alike a b (l ∷ ls) same = ap (λ t. map named_to_peer (cond t (l ∷ filter a ls) (filter a ls))) (same l (inl refl)) ∙ by (b l) (recalls_alike a b ls (λ x i. same x (inr i)))
  where
    by : (t : Bool) → recalls a ls ≡ recalls b ls → map named_to_peer (cond t (l ∷ filter a ls) (filter a ls)) ≡ map named_to_peer (cond t (l ∷ filter b ls) (filter b ls))
    by true e = ap (λ ns. named_to_peer l ∷ ns) e
    by false e = e

none_recalled : (issued : List PathLease) → [] ≡ recalls (λ l. false) issued
none_recalled [] = refl
none_recalled (l ∷ ls) = none_recalled ls

regroup : (a b c : Bool) → ((a || b) || c) ≡ (a || (b || c))
regroup true b c = refl
regroup false b c = refl

never : (b : Bool) → b ≡ true → b ≡ false → ⊥
never true p q = absurd (cc q)
never false p q = absurd (cc p)

-- ## Names that join those of the leases that pass a test

-- a greater number goes behind the first
once_behind : (n m : ℕ × PathNo) (ns : Names) → path_before m.1 n.1 ≡ true → with_once n (m ∷ ns) ≡ m ∷ with_once n ns
once_behind n m ns h =
    ap (λ b. cond (b || is_named ns n.1) (m ∷ ns) (with_named n (m ∷ ns))) (unlike m.1 n.1 h)
    ∙ ap (λ b. cond (is_named ns n.1) (m ∷ ns) (cond b (n ∷ m ∷ ns) (m ∷ with_named n ns))) (not_back m.1 n.1 h)
    ∙ by (is_named ns n.1)
  where
    by : (b : Bool) → cond b (m ∷ ns) (m ∷ with_named n ns) ≡ m ∷ cond b ns (with_named n ns)
    by true = refl
    by false = refl

-- the least number goes first
once_first : (n : ℕ × PathNo) (ns : Names) → list_all (λ m. path_before n.1 m.1) ns ≡ true → with_once n ns ≡ n ∷ ns
once_first n ns h = ap (λ b. cond b ns (with_named n ns)) (none_behind no_of_named n.1 ns h) ∙ name_first n ns h

once_same : (n : ℕ × PathNo) (ns : Names) → with_once n (n ∷ ns) ≡ n ∷ ns
once_same n ns = ap (λ b. cond (b || is_named ns n.1) (n ∷ ns) (with_named n (n ∷ ns))) (same_no_self n.1)

-- the lease's number is lesser than those behind it
abbrev IsFirst : PathLease → List PathLease → Type 0
IsFirst l ls = list_all (λ x. path_before l.no x.no) ls ≡ true

behind : (l x : PathLease) (ls : List PathLease) → IsFirst l ls → In x ls → path_before l.no x.no ≡ true
behind l x ls h i = all-In (λ y. path_before l.no y.no) ls h x i

once_at_first : (test : Test) (l : PathLease) (ls : List PathLease) → IsFirst l ls → with_once (named_to_peer l) (recalls test (l ∷ ls)) ≡ recalls (λ x. test x || same_path_no x.no l.no) (l ∷ ls)
once_at_first test l ls h =
    by (test l)
    ∙ ap (λ ns. named_to_peer l ∷ ns) (recalls_alike test (λ x. test x || same_path_no x.no l.no) ls (λ x i. sym (ap (λ b. test x || b) (same_no_symm x.no l.no ∙ unlike l.no x.no (behind l x ls h i)) ∙ or-false (test x))))
    ∙ sym (ap (λ b. map named_to_peer (cond b (l ∷ filter (λ x. test x || same_path_no x.no l.no) ls) (filter (λ x. test x || same_path_no x.no l.no) ls))) (second_or (test l) (same_path_no l.no l.no) (same_no_self l.no)))
  where
    by : (b : Bool) → with_once (named_to_peer l) (map named_to_peer (cond b (l ∷ filter test ls) (filter test ls))) ≡ named_to_peer l ∷ recalls test ls
    by true = once_same (named_to_peer l) (recalls test ls)
    by false = once_first (named_to_peer l) (recalls test ls) (all_names l.no test ls h)

once_behind_first : (test : Test) (x l : PathLease) (ls : List PathLease) → path_before l.no x.no ≡ true → with_once (named_to_peer x) (recalls test ls) ≡ recalls (λ y. test y || same_path_no y.no x.no) ls
    → with_once (named_to_peer x) (recalls test (l ∷ ls)) ≡ recalls (λ y. test y || same_path_no y.no x.no) (l ∷ ls)
once_behind_first test x l ls h rest =
    by (test l)
    ∙ sym (ap (λ b. map named_to_peer (cond b (l ∷ filter (λ y. test y || same_path_no y.no x.no) ls) (filter (λ y. test y || same_path_no y.no x.no) ls))) (ap (λ b. test l || b) (unlike l.no x.no h) ∙ or-false (test l)))
  where
    by : (b : Bool) → with_once (named_to_peer x) (map named_to_peer (cond b (l ∷ filter test ls) (filter test ls))) ≡ map named_to_peer (cond b (l ∷ filter (λ y. test y || same_path_no y.no x.no) ls) (filter (λ y. test y || same_path_no y.no x.no) ls))
    by true = once_behind (named_to_peer x) (named_to_peer l) (recalls test ls) h ∙ ap (λ ns. named_to_peer l ∷ ns) rest
    by false = rest

-- the name of one of the leases joins those that pass
once_recalled : (test : Test) (issued : List PathLease) (x : PathLease) → are_rising no_of_issued issued ≡ true → In x issued → with_once (named_to_peer x) (recalls test issued) ≡ recalls (λ l. test l || same_path_no l.no x.no) issued
once_recalled test [] x o i = absurd i
once_recalled test (l ∷ ls) x o (inl q) =
    subst (λ (y : PathLease). with_once (named_to_peer y) (recalls test (l ∷ ls)) ≡ recalls (λ z. test z || same_path_no z.no y.no) (l ∷ ls)) (sym q)
    (once_at_first test l ls (both _ _ o).0)
once_recalled test (l ∷ ls) x o (inr i) =
    let q = both (list_all (λ y. path_before l.no y.no) ls) (are_rising no_of_issued ls) o in
    once_behind_first test x l ls (behind l x ls q.0 i) (once_recalled test ls x q.1 i)

-- each of the names is that of one of the leases
abbrev pub AreOf : List (ℕ × PathNo) → List PathLease → Type 0
AreOf names issued = (n : ℕ × PathNo) → In n names → (l : PathLease) × (In l issued × (n ≡ named_to_peer l))

recalls_of : (test : Test) (issued : List PathLease) → AreOf (recalls test issued) issued
recalls_of test issued n i = let m = recalls_In test issued n i in (m.0, (m.1.0, m.1.1.1))

-- so do the names of several
each_recalled : (ns : Names) (test : Test) (issued : List PathLease) → are_rising no_of_issued issued ≡ true → AreOf ns issued → with_each ns (recalls test issued) ≡ recalls (λ l. test l || is_named ns l.no) issued
each_recalled [] test issued o of = recalls_alike test (λ l. test l || false) issued (λ l i. sym (or-false (test l)))
each_recalled (n ∷ ns) test issued o of =
    let m = of n (inl refl) in
    ap (λ k. with_each ns (with_once k (recalls test issued))) m.1.1
    ∙ ap (with_each ns) (once_recalled test issued m.0 o m.1.0)
    ∙ each_recalled ns (λ l. test l || same_path_no l.no m.0.no) issued o (λ k i. of k (inr i))
    ∙ recalls_alike _ _ issued (λ l i.
    regroup (test l) (same_path_no l.no m.0.no) (is_named ns l.no)
    ∙ ap (λ b. test l || (b || is_named ns l.no)) (same_no_symm l.no m.0.no ∙ ap (λ (k : ℕ × PathNo). same_path_no k.1 l.no) (sym m.1.1)))

-- a lease's number is among the names of those that pass where it does
named_recalled : (test : Test) (issued : List PathLease) (l : PathLease) → are_rising no_of_issued issued ≡ true → In l issued → is_named (recalls test issued) l.no ≡ test l
named_recalled test [] l o i = absurd i
named_recalled test (x ∷ xs) l o (inl q) = subst (λ (y : PathLease). is_named (recalls test (x ∷ xs)) y.no ≡ test y) (sym q) (by (test x))
  where
    by : (b : Bool) → is_named (map named_to_peer (cond b (x ∷ filter test xs) (filter test xs))) x.no ≡ b
    by true = ap (λ b. b || is_named (recalls test xs) x.no) (same_no_self x.no)
    by false = none_behind no_of_named x.no (recalls test xs) (all_names x.no test xs (both _ _ o).0)
named_recalled test (x ∷ xs) l o (inr i) =
    let q = both (list_all (λ y. path_before x.no y.no) xs) (are_rising no_of_issued xs) o in
    by (test x) (unlike x.no l.no (behind x l xs q.0 i)) (named_recalled test xs l q.1 i)
  where
    by : (b : Bool) → same_path_no x.no l.no ≡ false → is_named (recalls test xs) l.no ≡ test l → is_named (map named_to_peer (cond b (x ∷ filter test xs) (filter test xs))) l.no ≡ test l
    by true e rest = ap (λ b. b || is_named (recalls test xs) l.no) e ∙ rest
    by false e rest = rest

-- those of two lists join one after the other
each_append : (ns ms names : Names) → with_each (ns ++ ms) names ≡ with_each ms (with_each ns names)
each_append [] ms names = refl
each_append (n ∷ ns) ms names = each_append ns ms (with_once n names)

-- ## The names at the files

-- at each file stand the leases whose path goes over it
abbrev AreListed : Keyed Names → List PathLease → Type 0
AreListed es issued = (e : List ℕ × Names) → In e es → e.1 ≡ recalls (goes_over e.0) issued

-- they are names of the leases
there_of : (owners : Owners) (me : ℕ) (prefix : List ℕ) (issued : List PathLease) (es : Keyed Names) → AreListed es issued → AreOf (names_there owners me prefix es) issued
there_of owners me prefix issued [] each n i = absurd i
there_of owners me prefix issued (e ∷ es) each n i = elim (In-append n (given_names owners me prefix e) (names_there owners me prefix es) i) as (λ _. (l : PathLease) × (In l issued × (n ≡ named_to_peer l))) [
  | inl j ↦ by (is_given owners me prefix e.0) j
  | inr j ↦ there_of owners me prefix issued es (λ x k. each x (inr k)) n j
]
  where
    by : (b : Bool) → In n (cond b e.1 []) → (l : PathLease) × (In l issued × (n ≡ named_to_peer l))
    by true j = recalls_of (goes_over e.0) issued n (subst (λ ns. In n ns) (each e (inl refl)) j)
    by false j = absurd j

-- the path goes over one of these files that is below the prefix and the server's
abbrev goes_there : Owners → ℕ → List ℕ → List (List ℕ) → PathLease → Bool
goes_there owners me prefix ks l = list_any (λ k. is_given owners me prefix k && goes_over k l) ks

there_named : (owners : Owners) (me : ℕ) (prefix : List ℕ) (issued : List PathLease) (es : Keyed Names) (l : PathLease) → are_rising no_of_issued issued ≡ true → In l issued → AreListed es issued
    → is_named (names_there owners me prefix es) l.no ≡ goes_there owners me prefix (keys_of es) l
there_named owners me prefix issued [] l o i each = refl
there_named owners me prefix issued (e ∷ es) l o i each =
    list_any-append (is_numbered no_of_named l.no) (given_names owners me prefix e) (names_there owners me prefix es)
    ∙ ap (λ b. b || is_named (names_there owners me prefix es) l.no) (by (is_given owners me prefix e.0))
    ∙ ap (λ b. (is_given owners me prefix e.0 && goes_over e.0 l) || b) (there_named owners me prefix issued es l o i (λ x k. each x (inr k)))
  where
    by : (b : Bool) → is_named (cond b e.1 []) l.no ≡ (b && goes_over e.0 l)
    by true = ap (λ ns. is_named ns l.no) (each e (inl refl)) ∙ named_recalled (goes_over e.0) issued l o i
    by false = refl

-- of files among which are all over which a path goes
goes_there_is : (owners : Owners) (me : ℕ) (prefix : List ℕ) (issued : List PathLease) (ks : List (List ℕ)) (l : PathLease) → In l issued → ((k : List ℕ) → list_any (goes_over k) issued ≡ true → In k ks)
    → goes_there owners me prefix ks l ≡ goes_into owners me prefix l
goes_there_is owners me prefix issued ks l i all = by (goes_into owners me prefix l) refl
  where
    into : goes_there owners me prefix ks l ≡ true → goes_into owners me prefix l ≡ true
    into t =
        let k = any_In (λ x. is_given owners me prefix x && goes_over x l) ks t in
        let q = both (is_given owners me prefix k.0) (goes_over k.0 l) k.1.1 in
        let f = any_In (λ x. same x k.0) l.path q.1 in
        some_In (λ x. is_given owners me prefix x) l.path f.0 f.1.0 (ap (is_given owners me prefix) (same_is f.0 k.0 f.1.1) ∙ q.0)

    by : (b : Bool) → goes_into owners me prefix l ≡ b → goes_there owners me prefix ks l ≡ b
    by true e =
        let f = any_In (λ x. is_given owners me prefix x) l.path e in
        let over : goes_over f.0 l ≡ true = some_In (λ x. same x f.0) l.path f.0 f.1.0 (same_self f.0) in
        some_In (λ x. is_given owners me prefix x && goes_over x l) ks f.0 (all f.0 (some_In (goes_over f.0) issued l i over)) (joined (is_given owners me prefix f.0) (goes_over f.0 l) f.1.1 over)
    by false e = not_there (goes_there owners me prefix ks l) refl
      where
        not_there : (c : Bool) → goes_there owners me prefix ks l ≡ c → c ≡ false
        not_there true t = absurd (never (goes_into owners me prefix l) (into t) e)
        not_there false t = refl

-- ## Together

past : (owners : Owners) (me : ℕ) (prefix : List ℕ) (e : List ℕ × Names) (es : Keyed Names) → begins prefix e.0 ≡ false → names_there owners me prefix (e ∷ es) ≡ names_there owners me prefix es
past owners me prefix e es n = ap (λ b. cond (b && (server_of owners e.0 == me)) e.1 [] ++ names_there owners me prefix es) n

none_there : (owners : Owners) (me : ℕ) (prefix : List ℕ) (k : List ℕ) (es : Keyed Names) → is_le (slice_cmp nat_cmp prefix k) ≡ true → begins prefix k ≡ false → below_all (slice_cmp nat_cmp) k es ≡ true → names_there owners me prefix es ≡ []
none_there owners me prefix k [] a n h = refl
none_there owners me prefix k (e ∷ es) a n h =
    elim (begins prefix e.0) as (λ b. begins prefix e.0 ≡ b → names_there owners me prefix (e ∷ es) ≡ []) [
      | true ↦ λ b. absurd (cc (sym (between prefix k e.0 a (less _ (first _ _ h)) b) ∙ n))
      | false ↦ λ b. past owners me prefix e es b ∙ none_there owners me prefix k es a n (second _ _ h)
    ] refl

walked : (owners : Owners) (me : ℕ) (prefix : List ℕ) (es : Keyed Names) → is_sorted (slice_cmp nat_cmp) es ≡ true → names_from owners me prefix (from_there prefix es) ≡ names_there owners me prefix es
walked owners me prefix [] h = refl
walked owners me prefix (e ∷ es) h =
    elim (is_le (slice_cmp nat_cmp prefix e.0)) as (λ a. is_le (slice_cmp nat_cmp prefix e.0) ≡ a → names_from owners me prefix (cond (a && true) (e ∷ from_there prefix es) (from_there prefix es)) ≡ names_there owners me prefix (e ∷ es)) [
      | true ↦ λ a. elim (begins prefix e.0) as (λ b. begins prefix e.0 ≡ b → cond b (given_names owners me prefix e ++ names_from owners me prefix (from_there prefix es)) [] ≡ names_there owners me prefix (e ∷ es)) [
        | true ↦ λ b. ap (λ ns. given_names owners me prefix e ++ ns) (walked owners me prefix es (second _ _ h))
        | false ↦ λ b. sym (past owners me prefix e es b ∙ none_there owners me prefix e.0 es a b (first _ _ h))
      ] refl
      | false ↦ λ a. walked owners me prefix es (second _ _ h) ∙ sym (past owners me prefix e es (not_below prefix e.0 a))
    ] refl

-- a walk from the prefix on finds the names at all files below it
pub names_walked : (owners : Owners) (me : ℕ) (prefix : List ℕ) (m : ByFile) → IsStrictlySortedBy (slice_cmp nat_cmp) (keys_of m.entries)
    → names_from owners me prefix (entries_between (slice_cmp nat_cmp) (Included prefix) Unbounded m.entries) ≡ names_there owners me prefix (entries (map_of m))
names_walked owners me prefix m h =
    ap (λ es. names_from owners me prefix (from_there prefix es)) (sym (map_of_entries m h))
    ∙ walked owners me prefix (entries (map_of m)) (holds _ (entries_sorted (map_of m)))

-- the walk's next file, and its end
pub walk_more : (owners : Owners) (me : ℕ) (prefix : List ℕ) (e : List ℕ × Names) (es : Keyed Names) (names : Names) → begins prefix e.0 ≡ true
    → with_each (names_from owners me prefix (e ∷ es)) names ≡ with_each (names_from owners me prefix es) (with_each (given_names owners me prefix e) names)
walk_more owners me prefix e es names b =
    ap (λ t. with_each (cond t (given_names owners me prefix e ++ names_from owners me prefix es) []) names) b
    ∙ each_append (given_names owners me prefix e) (names_from owners me prefix es) names

pub walk_ends : (owners : Owners) (me : ℕ) (prefix : List ℕ) (e : List ℕ × Names) (es : Keyed Names) → begins prefix e.0 ≡ false → names_from owners me prefix (e ∷ es) ≡ []
walk_ends owners me prefix e es b = ap (λ t. cond t (given_names owners me prefix e ++ names_from owners me prefix es) []) b

-- ## The index

listed_there : (index : FileIndex) (issued : List PathLease) → IsOver index issued → index.whole ≡ true → AreListed (entries (map_of index.files)) issued
listed_there index issued h w e i = sym (ap listed (get-entries (map_of index.files) e.0 ∙ In_found e (entries (map_of index.files)) (holds _ (entries_sorted (map_of index.files))) i)) ∙ (h w).1 e.0

keys_there : (index : FileIndex) (issued : List PathLease) → IsOver index issued → index.whole ≡ true → (k : List ℕ) → list_any (goes_over k) issued ≡ true → In k (keys_of (entries (map_of index.files)))
keys_there index issued h w k e =
    has_key k (entries (map_of index.files)) (listed_some (find_entry (slice_cmp nat_cmp) k (entries (map_of index.files))) (recalls (goes_over k) issued)
    (sym (ap listed (get-entries (map_of index.files) k)) ∙ (h w).1 k) (some_named (goes_over k) issued ∙ e))

-- a lease is named below the prefix exactly where it goes into that part of the files
pub named_into : (owners : Owners) (me : ℕ) (prefix : List ℕ) (index : FileIndex) (issued : List PathLease) → IsOver index issued → index.whole ≡ true → (l : PathLease) → In l issued
    → is_named (names_there owners me prefix (entries (map_of index.files))) l.no ≡ goes_into owners me prefix l
named_into owners me prefix index issued h w l i =
    there_named owners me prefix issued (entries (map_of index.files)) l (h w).0 i (listed_there index issued h w)
    ∙ goes_there_is owners me prefix issued (keys_of (entries (map_of index.files))) l i (keys_there index issued h w)

-- and the names are those of the leases that do
pub names_are : (owners : Owners) (me : ℕ) (prefix : List ℕ) (index : FileIndex) (issued : List PathLease) → IsOver index issued → index.whole ≡ true
    → names_into owners me prefix (entries (map_of index.files)) ≡ recalls (goes_into owners me prefix) issued
names_are owners me prefix index issued h w =
    ap (with_each (names_there owners me prefix (entries (map_of index.files)))) (none_recalled issued)
    ∙ each_recalled (names_there owners me prefix (entries (map_of index.files))) (λ l. false) issued (h w).0 (there_of owners me prefix issued (entries (map_of index.files)) (listed_there index issued h w))
    ∙ recalls_alike _ (goes_into owners me prefix) issued (λ l i. named_into owners me prefix index issued h w l i)

-- ## Leases from other servers

pub held_rises : (index : FileIndex) (held : List Having) → IsVia index held → index.whole ≡ true → are_rising no_of_held held ≡ true
held_rises index held h w = sym (rising_map no_of_held no_of_issued lease_of (λ x. refl) held) ∙ (h w).0

-- each is found by its number
abbrev AreFound : List Having → List Having → Type 0
AreFound xs held = (x : Having) → In x xs → find (is_of (lease_of x).no) held ≡ Some x

each_found : (held : List Having) → are_rising no_of_held held ≡ true → AreFound held held
each_found [] o x i = absurd i
each_found (h ∷ hs) o x (inl q) = ap (λ b. cond b (Some h) (find (is_of (lease_of x).no) hs)) (ap (λ y. same_path_no (lease_of h).no (lease_of y).no) q ∙ same_no_self (lease_of h).no) ∙ ap Some (sym q)
each_found (h ∷ hs) o x (inr i) =
    let q = both (list_all (λ y. path_before (lease_of h).no (lease_of y).no) hs) (are_rising no_of_held hs) o in
    ap (λ b. cond b (Some h) (find (is_of (lease_of x).no) hs)) (unlike (lease_of h).no (lease_of x).no (all-In (λ y. path_before (lease_of h).no (lease_of y).no) hs q.0 x i))
    ∙ each_found hs q.1 x i

abbrev frees : List PathLease → List Having → ℕ × PathNo → Bool
frees issued held n = is_free issued (find (is_of n.1) held)

freed : (owners : Owners) (me : ℕ) (prefix : List ℕ) (issued : List PathLease) (held xs : List Having) → AreFound xs held → filter (frees issued held) (recalls (goes_into owners me prefix) (map lease_of xs)) ≡ releases (is_into owners me prefix) issued xs
freed owners me prefix issued held [] each = refl
freed owners me prefix issued held (x ∷ xs) each = by (goes_into owners me prefix (lease_of x)) (freed owners me prefix issued held xs (λ y i. each y (inr i)))
  where
    free : (b : Bool) → filter (frees issued held) (recalls (goes_into owners me prefix) (map lease_of xs)) ≡ releases (is_into owners me prefix) issued xs
        → cond b (named_to_peer (lease_of x) ∷ filter (frees issued held) (recalls (goes_into owners me prefix) (map lease_of xs))) (filter (frees issued held) (recalls (goes_into owners me prefix) (map lease_of xs)))
        ≡ map (λ h. named_to_peer (lease_of h)) (cond b (x ∷ filter (goes_back (is_into owners me prefix) issued) xs) (filter (goes_back (is_into owners me prefix) issued) xs))
    free true e = ap (λ ns. named_to_peer (lease_of x) ∷ ns) e
    free false e = e

    by : (b : Bool) → filter (frees issued held) (recalls (goes_into owners me prefix) (map lease_of xs)) ≡ releases (is_into owners me prefix) issued xs
        → filter (frees issued held) (map named_to_peer (cond b (lease_of x ∷ filter (goes_into owners me prefix) (map lease_of xs)) (filter (goes_into owners me prefix) (map lease_of xs))))
        ≡ map (λ h. named_to_peer (lease_of h)) (cond (b && not (is_needed issued x)) (x ∷ filter (goes_back (is_into owners me prefix) issued) xs) (filter (goes_back (is_into owners me prefix) issued) xs))
    by true e =
        ap (λ o. cond (is_free issued o) (named_to_peer (lease_of x) ∷ filter (frees issued held) (recalls (goes_into owners me prefix) (map lease_of xs))) (filter (frees issued held) (recalls (goes_into owners me prefix) (map lease_of xs)))) (each x (inl refl))
        ∙ free (not (is_needed issued x)) e
    by false e = e

-- of the names below the prefix, those whose lease goes back
pub released_there : (owners : Owners) (me : ℕ) (prefix : List ℕ) (index : FileIndex) (issued : List PathLease) (held : List Having) → IsVia index held → index.whole ≡ true
    → filter (frees issued held) (names_into owners me prefix (entries (map_of index.files))) ≡ releases (is_into owners me prefix) issued held
released_there owners me prefix index issued held h w =
    ap (filter (frees issued held)) (names_are owners me prefix index (map lease_of held) h w)
    ∙ freed owners me prefix issued held held (each_found held (held_rises index held h w))

-- ## Paths that go over their files

abbrev rests : List Having → PathLease → ℕ × PathNo → Bool
rests held l n = rests_on (find (is_of n.1) held) l

under_is : (files : ByFile) (issued : List PathLease) (o : Option Having) → AreOver files issued → names_under files o ≡ recalls (rests_on o) issued
under_is files issued None h = none_recalled issued
under_is files issued (Some x) h = h (lease_of x).file

each_under : (files : ByFile) (issued : List PathLease) (held : List Having) (ns : Names) (test : Test) → are_rising no_of_issued issued ≡ true → AreOver files issued
    → with_under files held ns (recalls test issued) ≡ recalls (λ l. test l || list_any (rests held l) ns) issued
each_under files issued held [] test o h = recalls_alike test _ issued (λ l i. sym (or-false (test l)))
each_under files issued held (n ∷ ns) test o h =
    ap (λ ms. with_under files held ns (with_each ms (recalls test issued))) (under_is files issued (find (is_of n.1) held) h)
    ∙ ap (with_under files held ns) (each_recalled (recalls (rests_on (find (is_of n.1) held)) issued) test issued o (recalls_of (rests_on (find (is_of n.1) held)) issued)
    ∙ recalls_alike _ (λ l. test l || rests held l n) issued (λ l i. ap (λ b. test l || b) (named_recalled (rests_on (find (is_of n.1) held)) issued l o i)))
    ∙ each_under files issued held ns (λ l. test l || rests held l n) o h
    ∙ recalls_alike _ _ issued (λ l i. regroup (test l) (rests held l n) (list_any (rests held l) ns))

pub under_step : (files : ByFile) (held : List Having) (ns : Names) (i : ℕ) (d : ℕ × PathNo) (names : Names) → i < length ns
    → with_under files held (drop i ns) names ≡ with_under files held (drop (i + 1) ns) (with_each (names_under files (find (is_of (get_or ns i d).1) held)) names)
under_step files held ns i d names l = ap (λ ms. with_under files held ms names) (drop_more ns i d l)

rested : (owners : Owners) (me : ℕ) (prefix : List ℕ) (held xs : List Having) (l : PathLease) → AreFound xs held → list_any (rests held l) (recalls (goes_into owners me prefix) (map lease_of xs)) ≡ rests_on_asked (is_into owners me prefix) xs l
rested owners me prefix held [] l each = refl
rested owners me prefix held (x ∷ xs) l each = by (goes_into owners me prefix (lease_of x)) (rested owners me prefix held xs l (λ y i. each y (inr i)))
  where
    by : (b : Bool) → list_any (rests held l) (recalls (goes_into owners me prefix) (map lease_of xs)) ≡ rests_on_asked (is_into owners me prefix) xs l
        → list_any (rests held l) (map named_to_peer (cond b (lease_of x ∷ filter (goes_into owners me prefix) (map lease_of xs)) (filter (goes_into owners me prefix) (map lease_of xs))))
        ≡ ((b && goes_over (lease_of x).file l) || rests_on_asked (is_into owners me prefix) xs l)
    by true e = ap (λ o. rests_on o l || list_any (rests held l) (recalls (goes_into owners me prefix) (map lease_of xs))) (each x (inl refl)) ∙ ap (λ b. goes_over (lease_of x).file l || b) e
    by false e = e

-- the names below the prefix in both indexes come to all that are asked back
pub recalled_there : (owners : Owners) (me : ℕ) (prefix : List ℕ) (over via : FileIndex) (issued : List PathLease) (held : List Having) → IsOver over issued → over.whole ≡ true → IsVia via held → via.whole ≡ true
    → with_under over.files held (names_into owners me prefix (entries (map_of via.files))) (names_into owners me prefix (entries (map_of over.files))) ≡ recalls (is_asked_in owners me prefix held) issued
recalled_there owners me prefix over via issued held h w k v =
    ap (λ ns. with_under over.files held ns (names_into owners me prefix (entries (map_of over.files)))) (names_are owners me prefix via (map lease_of held) k v)
    ∙ ap (with_under over.files held (recalls (goes_into owners me prefix) (map lease_of held))) (names_are owners me prefix over issued h w)
    ∙ each_under over.files issued held (recalls (goes_into owners me prefix) (map lease_of held)) (goes_into owners me prefix) (h w).0 (h w).1
    ∙ recalls_alike _ (is_asked_in owners me prefix held) issued (λ l i. ap (λ b. goes_into owners me prefix l || b) (rested owners me prefix held held l (each_found held (held_rises via held k v))))
