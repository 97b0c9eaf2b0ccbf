-- The least number of the leases whose paths go below a prefix, as the index tells it.
use Rattle.std.proofs.Common.{◌≡◌, ◌∙◌, ◌&&◌, ◌||◌, ◌==◌, ℕ, length, map, Bool, true, false, not, List, [], ◌∷◌, refl, ap, cond, sym, inl, inr}
use Rattle.std.specs.Prelude.{Option, Some, None, is_some, option_map}
use Rattle.std.specs.List.{filter, find, list_all, list_any}
use Rattle.std.specs.List.Sorted.{IsStrictlySortedBy}
use Rattle.std.specs.Map.{keys_of}
use Rattle.std.specs.BTreeMap.Range.{entries_between}
use Rattle.std.specs.declared.ops.Bound.TheVariants.{Included, Unbounded}
use Rattle.std.specs.Ordering.{nat_cmp, is_le, eq_by_cmp}
use Rattle.std.specs.Cmp.Lexicographic.{slice_cmp}
use Rattle.std.specs.FinMap.{entries, find as find_entry, get-entries, entries_sorted, is_sorted}
use Rattle.std.specs.FinMap.Entries.{below_all}
use Rattle.fs_ident.specs.In.{In}
use Rattle.fs_ident.specs.Ident.{same}
use Rattle.fs_ident.specs.Maps.{map_of}
use Rattle.fs_ident.specs.Ordered.{Keyed}
use Rattle.fs_ident.specs.declared.actor.PathNo.{PathNo}
use Rattle.fs_ident.proofs.Booleans.{both, equal_is, first, second, less, holds}
use Rattle.fs_ident.proofs.MapsOf.{anti, map_of_entries}
use Rattle.fs_ident.proofs.Same.{same_is, same_self}
use Rattle.fs_ident.proofs.Standing.{any_In}
use Rattle.fs_map.specs.Map.{Owners, begins, is_given, server_of}
use Rattle.fs_map.proofs.Found.{In_found}
use Rattle.fs_record.proofs.Parting.{between, from_prefix}
use Rattle.fs_path.specs.Index.{ByFile, IsOver, IsVia, are_rising, first_named, least_from, least_into, listed, no_of_issued, number_into}
use Rattle.fs_path.specs.Leases.{PathLease, goes_into, goes_over, lesser_no, path_before, same_path_no}
use Rattle.fs_path.specs.Returns.{recalls}
use Rattle.fs_path.specs.Tables.{lease_of, through}
use Rattle.fs_path.specs.declared.having.Having.{Having}
use Rattle.fs_path.specs.declared.index.FileIndex.{FileIndex}
use Rattle.fs_path.proofs.Over.{first_is, some_named}
use Rattle.fs_path.proofs.Rising.{before_or_after, before_trans, not_back, same_no_is}

abbrev Names : Type 0
Names = List (ℕ × PathNo)

-- ## The lesser of numbers

pub lesser_none : (o : Option PathNo) → lesser_no o None ≡ o
lesser_none None = refl
lesser_none (Some a) = refl

-- of three numbers the least, however they are taken
pub lesser_regroup : (a b c : Option PathNo) → lesser_no (lesser_no a b) c ≡ lesser_no a (lesser_no b c)
lesser_regroup None b c = refl
lesser_regroup (Some a) None c = refl
lesser_regroup (Some a) (Some b) None = lesser_none (lesser_no (Some a) (Some b))
lesser_regroup (Some a) (Some b) (Some c) = go (path_before b a) refl (path_before c b) refl
  where
    go : (p : Bool) → path_before b a ≡ p → (q : Bool) → path_before c b ≡ q → lesser_no (cond p (Some b) (Some a)) (Some c) ≡ lesser_no (Some a) (cond q (Some c) (Some b))
    go true e true f = ap (λ t. cond t (Some c) (Some b)) f ∙ sym (ap (λ t. cond t (Some c) (Some a)) (before_trans c b a f e))
    go true e false f = ap (λ t. cond t (Some c) (Some b)) f ∙ sym (ap (λ t. cond t (Some b) (Some a)) e)
    go false e true f = refl
    go false e false f = ap (λ t. cond t (Some c) (Some a)) (later (path_before c a) refl) ∙ sym (ap (λ t. cond t (Some b) (Some a)) e)
      where
        -- c before a, a not behind b: then c before b
        later : (t : Bool) → path_before c a ≡ t → path_before c a ≡ false
        later false g = g
        later true g = by (same_path_no a b) refl
          where
            by : (s : Bool) → same_path_no a b ≡ s → path_before c a ≡ false
            by true h = ap (path_before c) (same_no_is a b h) ∙ f
            by false h = let wrong : true ≡ false = sym (before_trans c a b g (before_or_after a b h e)) ∙ f in absurd (cc wrong)

-- it is not before the number
abbrev is_from : PathNo → Option PathNo → Bool
is_from m None = true
is_from m (Some n) = not (path_before n m)

lesser_first : (m : PathNo) (o : Option PathNo) → is_from m o ≡ true → lesser_no (Some m) o ≡ Some m
lesser_first m None h = refl
lesser_first m (Some n) h = by (path_before n m) h
  where
    by : (b : Bool) → not b ≡ true → cond b (Some n) (Some m) ≡ Some m
    by true k = absurd (cc k)
    by false k = refl

lesser_second : (m : PathNo) (o : Option PathNo) → is_from m o ≡ true → lesser_no o (Some m) ≡ Some m
lesser_second m None h = refl
lesser_second m (Some n) h = by (path_before m n) refl (path_before n m) refl h
  where
    by : (b : Bool) → path_before m n ≡ b → (c : Bool) → path_before n m ≡ c → not c ≡ true → cond b (Some m) (Some n) ≡ Some m
    by true e c f k = refl
    by false e true f k = absurd (cc k)
    by false e false f k = alike (same_path_no n m) refl
      where
        alike : (s : Bool) → same_path_no n m ≡ s → Some n ≡ Some m
        alike true g = ap Some (same_no_is n m g)
        alike false g = let wrong : true ≡ false = sym (before_or_after n m g e) ∙ f in absurd (cc wrong)

lesser_from : (m : PathNo) (a b : Option PathNo) → is_from m a ≡ true → is_from m b ≡ true → is_from m (lesser_no a b) ≡ true
lesser_from m None b h k = k
lesser_from m (Some a) None h k = h
lesser_from m (Some a) (Some b) h k = by (path_before b a)
  where
    by : (t : Bool) → is_from m (cond t (Some b) (Some a)) ≡ true
    by true = k
    by false = h

-- ## Together

pub not_below : (p q : List ℕ) → is_le (slice_cmp nat_cmp p q) ≡ false → begins p q ≡ false
not_below p q a = elim (begins p q) as (λ b. begins p q ≡ b → b ≡ false) [
  | true ↦ λ b. absurd (cc (sym (from_prefix p q b) ∙ a))
  | false ↦ λ b. refl
] refl

abbrev pub from_there : List ℕ → Keyed Names → Keyed Names
from_there prefix es = filter (λ e. is_le (slice_cmp nat_cmp prefix e.0) && true) es

past : (owners : Owners) (me : ℕ) (prefix : List ℕ) (e : List ℕ × Names) (es : Keyed Names) → begins prefix e.0 ≡ false → least_into owners me prefix (e ∷ es) ≡ least_into owners me prefix es
past owners me prefix e es n = ap (λ b. lesser_no (cond (b && (server_of owners e.0 == me)) (first_named e.1) None) (least_into owners me prefix es)) n

none_behind : (owners : Owners) (me : ℕ) (prefix : List ℕ) (k : List ℕ) (es : Keyed Names) → is_le (slice_cmp nat_cmp prefix k) ≡ true → begins prefix k ≡ false → below_all (slice_cmp nat_cmp) k es ≡ true → least_into owners me prefix es ≡ None
none_behind owners me prefix k [] a n h = refl
none_behind owners me prefix k (e ∷ es) a n h =
    elim (begins prefix e.0) as (λ b. begins prefix e.0 ≡ b → least_into owners me prefix (e ∷ es) ≡ None) [
      | true ↦ λ b. absurd (cc (sym (between prefix k e.0 a (less _ (first _ _ h)) b) ∙ n))
      | false ↦ λ b. past owners me prefix e es b ∙ none_behind owners me prefix k es a n (second _ _ h)
    ] refl

walked : (owners : Owners) (me : ℕ) (prefix : List ℕ) (es : Keyed Names) → is_sorted (slice_cmp nat_cmp) es ≡ true → least_from owners me prefix (from_there prefix es) ≡ least_into owners me prefix es
walked owners me prefix [] h = refl
walked owners me prefix (e ∷ es) h =
    elim (is_le (slice_cmp nat_cmp prefix e.0)) as (λ a. is_le (slice_cmp nat_cmp prefix e.0) ≡ a → least_from owners me prefix (cond (a && true) (e ∷ from_there prefix es) (from_there prefix es)) ≡ least_into owners me prefix (e ∷ es)) [
      | true ↦ λ a. elim (begins prefix e.0) as (λ b. begins prefix e.0 ≡ b → cond b (lesser_no (number_into owners me prefix e) (least_from owners me prefix (from_there prefix es))) None ≡ least_into owners me prefix (e ∷ es)) [
        | true ↦ λ b. ap (lesser_no (number_into owners me prefix e)) (walked owners me prefix es (second _ _ h))
        | false ↦ λ b. sym (past owners me prefix e es b ∙ none_behind owners me prefix e.0 es a b (first _ _ h))
      ] refl
      | false ↦ λ a. walked owners me prefix es (second _ _ h) ∙ sym (past owners me prefix e es (not_below prefix e.0 a))
    ] refl

-- a walk from the prefix on finds the least of all files
pub least_there : (owners : Owners) (me : ℕ) (prefix : List ℕ) (m : ByFile) → IsStrictlySortedBy (slice_cmp nat_cmp) (keys_of m.entries)
    → least_from owners me prefix (entries_between (slice_cmp nat_cmp) (Included prefix) Unbounded m.entries) ≡ least_into owners me prefix (entries (map_of m))
least_there owners me prefix m h =
    ap (λ es. least_from owners me prefix (from_there prefix es)) (sym (map_of_entries m h))
    ∙ walked owners me prefix (entries (map_of m)) (holds _ (entries_sorted (map_of m)))

-- ## Beside the leases

pub second_or : (a b : Bool) → b ≡ true → (a || b) ≡ true
second_or true b h = refl
second_or false b h = h

pub some_In : {X : Type 0} (test : X → Bool) (xs : List X) (x : X) → In x xs → test x ≡ true → list_any test xs ≡ true
some_In test [] x i e = absurd i
some_In test (y ∷ ys) x (inl q) e = ap (λ b. b || list_any test ys) (ap test (sym q) ∙ e)
some_In test (y ∷ ys) x (inr i) e = second_or (test y) (list_any test ys) (some_In test ys x i e)

-- the least of the numbers of the first leases over each of these files
abbrev least_through : Owners → ℕ → List ℕ → List (List ℕ) → List PathLease → Option PathNo
least_through owners me prefix [] issued = None
least_through owners me prefix (k ∷ ks) issued = lesser_no (cond (is_given owners me prefix k) (through k issued) None) (least_through owners me prefix ks issued)

-- where none of its files is over, the first lease counts for nothing
none_over : (owners : Owners) (me : ℕ) (prefix : List ℕ) (l : PathLease) (ls : List PathLease) (ks : List (List ℕ)) → goes_into owners me prefix l ≡ false → least_through owners me prefix ks (l ∷ ls) ≡ least_through owners me prefix ks ls
none_over owners me prefix l ls [] e = refl
none_over owners me prefix l ls (k ∷ ks) e = by (is_given owners me prefix k) refl (goes_over k l) refl (none_over owners me prefix l ls ks e)
  where
    by : (b : Bool) → is_given owners me prefix k ≡ b → (c : Bool) → goes_over k l ≡ c → least_through owners me prefix ks (l ∷ ls) ≡ least_through owners me prefix ks ls
        → lesser_no (cond b (option_map (λ (x : PathLease). x.no) (cond (goes_over k l) (Some l) (find (goes_over k) ls))) None) (least_through owners me prefix ks (l ∷ ls)) ≡ lesser_no (cond b (through k ls) None) (least_through owners me prefix ks ls)
    by false g c o rest = rest
    by true g false o rest =
        ap (λ t. lesser_no (option_map (λ (x : PathLease). x.no) (cond t (Some l) (find (goes_over k) ls))) (least_through owners me prefix ks (l ∷ ls))) o
        ∙ ap (lesser_no (through k ls)) rest
    by true g true o rest =
        let f = any_In (λ x. same x k) l.path o in
        let is = same_is f.0 k f.1.1 in
        let wrong : true ≡ false = sym (some_In (λ x. is_given owners me prefix x) l.path f.0 f.1.0 (ap (is_given owners me prefix) is ∙ g)) ∙ e in
        absurd (cc wrong)

-- the numbers behind it are none before it
through_from : (m : PathNo) (k : List ℕ) (ls : List PathLease) → list_all (λ x. path_before m x.no) ls ≡ true → is_from m (through k ls) ≡ true
through_from m k [] h = refl
through_from m k (l ∷ ls) h =
    let q = both (path_before m l.no) (list_all (λ x. path_before m x.no) ls) h in
    by (goes_over k l) (ap not (not_back m l.no q.0)) (through_from m k ls q.1)
  where
    by : (b : Bool) → not (path_before l.no m) ≡ true → is_from m (through k ls) ≡ true → is_from m (option_map (λ (x : PathLease). x.no) (cond b (Some l) (find (goes_over k) ls))) ≡ true
    by true f r = f
    by false f r = r

self_from : (l : PathLease) → not (path_before l.no l.no) ≡ true
self_from l = by (path_before l.no l.no) refl
  where
    by : (b : Bool) → path_before l.no l.no ≡ b → not b ≡ true
    by true e = let wrong : true ≡ false = sym e ∙ not_back l.no l.no e in absurd (cc wrong)
    by false e = refl

one_from : (l : PathLease) (ls : List PathLease) (b : Bool) (k : List ℕ) → list_all (λ x. path_before l.no x.no) ls ≡ true → is_from l.no (cond b (through k (l ∷ ls)) None) ≡ true
one_from l ls false k h = refl
one_from l ls true k h = by (goes_over k l)
  where
    by : (c : Bool) → is_from l.no (option_map (λ (x : PathLease). x.no) (cond c (Some l) (find (goes_over k) ls))) ≡ true
    by true = self_from l
    by false = through_from l.no k ls h

all_from : (owners : Owners) (me : ℕ) (prefix : List ℕ) (l : PathLease) (ls : List PathLease) (ks : List (List ℕ)) → list_all (λ x. path_before l.no x.no) ls ≡ true → is_from l.no (least_through owners me prefix ks (l ∷ ls)) ≡ true
all_from owners me prefix l ls [] h = refl
all_from owners me prefix l ls (k ∷ ks) h = lesser_from l.no _ _ (one_from l ls (is_given owners me prefix k) k h) (all_from owners me prefix l ls ks h)

-- where it goes over one of the files it is the least
least_first : (owners : Owners) (me : ℕ) (prefix : List ℕ) (l : PathLease) (ls : List PathLease) (k : List ℕ) (ks : List (List ℕ)) → list_all (λ x. path_before l.no x.no) ls ≡ true → In k ks → is_given owners me prefix k ≡ true → goes_over k l ≡ true → least_through owners me prefix ks (l ∷ ls) ≡ Some l.no
least_first owners me prefix l ls k [] h i g o = absurd i
least_first owners me prefix l ls k (x ∷ xs) h (inl q) g o =
    ap (λ y. lesser_no (cond (is_given owners me prefix y) (through y (l ∷ ls)) None) (least_through owners me prefix xs (l ∷ ls))) (sym q)
    ∙ ap (λ b. lesser_no (cond b (through k (l ∷ ls)) None) (least_through owners me prefix xs (l ∷ ls))) g
    ∙ ap (λ b. lesser_no (option_map (λ (x : PathLease). x.no) (cond b (Some l) (find (goes_over k) ls))) (least_through owners me prefix xs (l ∷ ls))) o
    ∙ lesser_first l.no (least_through owners me prefix xs (l ∷ ls)) (all_from owners me prefix l ls xs h)
least_first owners me prefix l ls k (x ∷ xs) h (inr i) g o =
    ap (lesser_no (cond (is_given owners me prefix x) (through x (l ∷ ls)) None)) (least_first owners me prefix l ls k xs h i g o)
    ∙ lesser_second l.no (cond (is_given owners me prefix x) (through x (l ∷ ls)) None) (one_from l ls (is_given owners me prefix x) x h)

-- of files among which are all over which a path goes, it is the first lease that goes into them
least_is : (owners : Owners) (me : ℕ) (prefix : List ℕ) (issued : List PathLease) (ks : List (List ℕ)) → are_rising no_of_issued issued ≡ true → ((k : List ℕ) → list_any (goes_over k) issued ≡ true → In k ks)
    → least_through owners me prefix ks issued ≡ option_map (λ (l : PathLease). l.no) (find (goes_into owners me prefix) issued)
least_is owners me prefix [] ks r all = none ks
  where
    none : (xs : List (List ℕ)) → least_through owners me prefix xs [] ≡ None
    none [] = refl
    none (x ∷ xs) = by (is_given owners me prefix x) (none xs)
      where
        by : (b : Bool) → least_through owners me prefix xs [] ≡ None → lesser_no (cond b None None) (least_through owners me prefix xs []) ≡ None
        by true e = e
        by false e = e
least_is owners me prefix (l ∷ ls) ks r all =
    let q = both (list_all (λ x. path_before l.no x.no) ls) (are_rising no_of_issued ls) r in
    by (goes_into owners me prefix l) refl q.0 (least_is owners me prefix ls ks q.1 (λ k e. all k (second_or (goes_over k l) (list_any (goes_over k) ls) e)))
  where
    by : (b : Bool) → goes_into owners me prefix l ≡ b → list_all (λ x. path_before l.no x.no) ls ≡ true → least_through owners me prefix ks ls ≡ option_map (λ (x : PathLease). x.no) (find (goes_into owners me prefix) ls)
        → least_through owners me prefix ks (l ∷ ls) ≡ option_map (λ (x : PathLease). x.no) (cond b (Some l) (find (goes_into owners me prefix) ls))
    by true e h rest =
        let f = any_In (λ x. is_given owners me prefix x) l.path e in
        let over : goes_over f.0 l ≡ true = some_In (λ x. same x f.0) l.path f.0 f.1.0 (same_self f.0) in
        least_first owners me prefix l ls f.0 ks h (all f.0 (ap (λ b. b || list_any (goes_over f.0) ls) over)) f.1.1 over
    by false e h rest = none_over owners me prefix l ls ks e ∙ rest

-- ## The index

pub has_key : (k : List ℕ) (es : Keyed Names) → is_some (find_entry (slice_cmp nat_cmp) k es) ≡ true → In k (keys_of es)
has_key k [] h = absurd (cc h)
has_key k (e ∷ es) h = by (eq_by_cmp (slice_cmp nat_cmp) k e.0) refl h (has_key k es)
  where
    by : (b : Bool) → eq_by_cmp (slice_cmp nat_cmp) k e.0 ≡ b → is_some (cond b (Some e.1) (find_entry (slice_cmp nat_cmp) k es)) ≡ true → (is_some (find_entry (slice_cmp nat_cmp) k es) ≡ true → In k (keys_of es)) → In k (e.0 ∷ keys_of es)
    by true q s rest = inl (anti k e.0 (equal_is _ q))
    by false q s rest = inr (rest s)

pub listed_some : (o : Option Names) (ns : Names) → listed o ≡ ns → not (length ns == 0) ≡ true → is_some o ≡ true
listed_some (Some x) ns e h = refl
listed_some None ns e h = let wrong : false ≡ true = ap (λ xs. not (length xs == 0)) e ∙ h in absurd (cc wrong)

-- what an entry lists are the leases over its file
each_through : (owners : Owners) (me : ℕ) (prefix : List ℕ) (issued : List PathLease) (es : Keyed Names) → ((e : List ℕ × Names) → In e es → e.1 ≡ recalls (goes_over e.0) issued) → least_into owners me prefix es ≡ least_through owners me prefix (keys_of es) issued
each_through owners me prefix issued [] each = refl
each_through owners me prefix issued (e ∷ es) each =
    ap (λ n. lesser_no (cond (is_given owners me prefix e.0) n None) (least_into owners me prefix es)) (ap first_named (each e (inl refl)) ∙ first_is e.0 issued)
    ∙ ap (lesser_no (cond (is_given owners me prefix e.0) (through e.0 issued) None)) (each_through owners me prefix issued es (λ x i. each x (inr i)))

pub least_over : (owners : Owners) (me : ℕ) (prefix : List ℕ) (index : FileIndex) (issued : List PathLease) → IsOver index issued → index.whole ≡ true → least_into owners me prefix (entries (map_of index.files)) ≡ option_map (λ (l : PathLease). l.no) (find (goes_into owners me prefix) issued)
least_over owners me prefix index issued h w =
    let q = h w in
    each_through owners me prefix issued (entries (map_of index.files)) (λ e i. sym (ap listed (get-entries (map_of index.files) e.0 ∙ In_found e (entries (map_of index.files)) (holds _ (entries_sorted (map_of index.files))) i)) ∙ q.1 e.0)
    ∙ least_is owners me prefix issued (keys_of (entries (map_of index.files))) q.0 (λ k e. has_key k (entries (map_of index.files)) (listed_some (find_entry (slice_cmp nat_cmp) k (entries (map_of index.files))) (recalls (goes_over k) issued) (sym (ap listed (get-entries (map_of index.files) k)) ∙ q.1 k) (some_named (goes_over k) issued ∙ e)))

-- and for those from other servers
first_via : (owners : Owners) (me : ℕ) (prefix : List ℕ) (held : List Having)
    → option_map (λ (l : PathLease). l.no) (find (goes_into owners me prefix) (map lease_of held)) ≡ option_map (λ h. (lease_of h).no) (find (λ h. goes_into owners me prefix (lease_of h)) held)
first_via owners me prefix [] = refl
first_via owners me prefix (h ∷ hs) = by (goes_into owners me prefix (lease_of h)) (first_via owners me prefix hs)
  where
    by : (b : Bool) → option_map (λ (l : PathLease). l.no) (find (goes_into owners me prefix) (map lease_of hs)) ≡ option_map (λ x. (lease_of x).no) (find (λ x. goes_into owners me prefix (lease_of x)) hs)
        → option_map (λ (l : PathLease). l.no) (cond b (Some (lease_of h)) (find (goes_into owners me prefix) (map lease_of hs))) ≡ option_map (λ x. (lease_of x).no) (cond b (Some h) (find (λ x. goes_into owners me prefix (lease_of x)) hs))
    by true rest = refl
    by false rest = rest

pub least_via : (owners : Owners) (me : ℕ) (prefix : List ℕ) (index : FileIndex) (held : List Having) → IsVia index held → index.whole ≡ true
    → least_into owners me prefix (entries (map_of index.files)) ≡ option_map (λ h. (lease_of h).no) (find (λ h. goes_into owners me prefix (lease_of h)) held)
least_via owners me prefix index held h w = least_over owners me prefix index (map lease_of held) h w ∙ first_via owners me prefix held
