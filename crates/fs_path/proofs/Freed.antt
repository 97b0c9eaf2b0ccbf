-- Leaving leases that go since nothing needs them any more: where they stand, and that no others go.
use Rattle.std.proofs.Common.{◌≡◌, ◌∙◌, ◌&&◌, ◌||◌, ◌+◌, ◌<◌, ℕ, Bool, true, false, not, List, [], ◌∷◌, zero, suc, refl, sym, ap, subst, cond, map, length, get_or, drop, take, inl, inr, arith}
use Rattle.std.specs.Prelude.{Option, Some, None, option_map}
use Rattle.std.specs.List.{filter, find, list_any, position, remove}
use Rattle.fs_ident.specs.In.{In}
use Rattle.fs_ident.specs.Ident.{same}
use Rattle.fs_ident.specs.declared.actor.PathNo.{PathNo}
use Rattle.fs_ident.proofs.Booleans.{both, joined}
use Rattle.fs_ident.proofs.Passing.{found}
use Rattle.fs_ident.proofs.Same.{same_is}
use Rattle.fs_ident.proofs.Standing.{In-filter, In-map, In-mapped, any_In, none_any, none_pass}
use Rattle.fs_path.specs.Freed.{freed_names, if_leaving, is_freed, leaves, leaves_at, without_freed}
use Rattle.fs_path.specs.Index.{IsOwn, are_rising, is_numbered, named_at, no_of_held, no_of_issued, no_of_named}
use Rattle.fs_path.specs.Leases.{PathLease, goes_over, has_no, named_to_peer, same_path_no}
use Rattle.fs_path.specs.Merged.{with_each, with_once}
use Rattle.fs_path.specs.Returns.{AreNeeded, asked_back, goes_back, held_after, is_needed, is_of, releases, without_no}
use Rattle.fs_path.specs.Tables.{is_leaving, lease_of}
use Rattle.fs_path.specs.Walk.{is_among}
use Rattle.fs_path.specs.declared.having.Having.{Having}
use Rattle.fs_path.specs.declared.having.Having.TheVariants.{Held, Leaving}
use Rattle.fs_path.specs.declared.index.FileIndex.{FileIndex}
use Rattle.fs_path.proofs.ByFile.{among_more}
use Rattle.fs_path.proofs.LeaseLaws.{passed, passes}
use Rattle.fs_path.proofs.Merges.{AreAmong, each_from, each_here, each_kept, each_rises, held_rise, one_of_number, same_rising}
use Rattle.fs_path.proofs.Own.{found_own, names_own, own_rises}
use Rattle.fs_path.proofs.Rising.{at_number, gone_there, none_go, placed_any, rising_filter, same_no_is, same_no_self}
use Rattle.fs_path.proofs.Steps.{filter_step}

abbrev Names : Type 0
Names = List (ℕ × PathNo)

abbrev named : Having → ℕ × PathNo
named h = named_to_peer (lease_of h)

-- ## What passes

-- of those that pass a test, those that pass another
filter_both : (a b : Having → Bool) (held : List Having) → filter a (filter b held) ≡ filter (λ h. b h && a h) held
filter_both a b [] = refl
filter_both a b (h ∷ hs) = by (b h) (a h) refl (filter_both a b hs)
  where
    by : (p q : Bool) → a h ≡ q → filter a (filter b hs) ≡ filter (λ x. b x && a x) hs → filter a (cond p (h ∷ filter b hs) (filter b hs)) ≡ cond (p && q) (h ∷ filter (λ x. b x && a x) hs) (filter (λ x. b x && a x) hs)
    by true true e rest = ap (λ c. cond c (h ∷ filter a (filter b hs)) (filter a (filter b hs))) e ∙ ap (λ xs. h ∷ xs) rest
    by true false e rest = ap (λ c. cond c (h ∷ filter a (filter b hs)) (filter a (filter b hs))) e ∙ rest
    by false q e rest = rest

-- tests that agree on each
filter_alike : (a b : Having → Bool) (held : List Having) → ((h : Having) → In h held → a h ≡ b h) → filter a held ≡ filter b held
filter_alike a b [] f = refl
filter_alike a b (h ∷ hs) f = ap (λ c. cond c (h ∷ filter a hs) (filter a hs)) (f h (inl refl)) ∙ ap (λ xs. cond (b h) (h ∷ xs) xs) (filter_alike a b hs (λ x i. f x (inr i)))

all_pass : {X : Type 0} (test : X → Bool) (xs : List X) → ((x : X) → In x xs → test x ≡ true) → filter test xs ≡ xs
all_pass test [] f = refl
all_pass test (x ∷ xs) f = ap (λ c. cond c (x ∷ filter test xs) (filter test xs)) (f x (inl refl)) ∙ ap (λ ys. x ∷ ys) (all_pass test xs (λ y i. f y (inr i)))

none_stay : (a : Having → Bool) (held : List Having) → ((h : Having) → In h held → a h ≡ false) → filter a held ≡ []
none_stay a [] f = refl
none_stay a (h ∷ hs) f = ap (λ c. cond c (h ∷ filter a hs) (filter a hs)) (f h (inl refl)) ∙ none_stay a hs (λ x i. f x (inr i))

-- some go where one does not pass
fewer : (a : Having → Bool) (x : Having) (held : List Having) → In x held → a x ≡ false → length (filter a held) < length held
fewer a x [] i e = absurd i
fewer a x (h ∷ hs) (inl q) e = let r = no_more hs in subst (λ b. length (cond b (h ∷ filter a hs) (filter a hs)) < length (h ∷ hs)) (sym (ap a (sym q) ∙ e)) (omega (arith, r))
  where
    no_more : (ys : List Having) → length (filter a ys) < suc (length ys)
    no_more [] = omega arith
    no_more (y ∷ ys) = by (a y) (no_more ys)
      where
        by : (b : Bool) → length (filter a ys) < suc (length ys) → length (cond b (y ∷ filter a ys) (filter a ys)) < suc (length (y ∷ ys))
        by true l = omega (arith, l)
        by false l = omega (arith, l)
fewer a x (h ∷ hs) (inr i) e = by (a h) (fewer a x hs i e)
  where
    by : (b : Bool) → length (filter a hs) < length hs → length (cond b (h ∷ filter a hs) (filter a hs)) < length (h ∷ hs)
    by true l = omega (arith, l)
    by false l = omega (arith, l)

-- ## Of a number

-- the one of the number is taken out of its place
pub gone_of : (number : PathNo) (held : List Having) (i : ℕ) → are_rising no_of_held held ≡ true → Some i ≡ position (is_numbered no_of_held number) held → remove held i ≡ filter (λ h. not (is_of number h)) held
gone_of number [] zero o e = refl
gone_of number [] (suc i) o e = refl
gone_of number (x ∷ xs) i o e =
    let there = at_number (is_numbered no_of_held number) (x ∷ xs) i x e in
    gone_there no_of_held number (x ∷ xs) i x o there.0 there.1

pub none_of : (number : PathNo) (held : List Having) → None ≡ position (is_numbered no_of_held number) held → held ≡ filter (λ h. not (is_of number h)) held
none_of number held e = sym (none_go no_of_held number held (sym (placed_any (is_numbered no_of_held number) held None e)))

-- whether the one of the number leaves
leaves_own : (held : List Having) (x : Having) → are_rising no_of_held held ≡ true → In x held → leaves (lease_of x).no held ≡ is_leaving x
leaves_own held x o i = ap if_leaving (found_own held x o i)

-- ## Of a file

abbrev is_at : List ℕ → Having → Bool
is_at file h = same (lease_of h).file file

at_file : (file : List ℕ) (index : FileIndex) (held : List Having) → IsOwn index held → index.whole ≡ true → named_at index.files file ≡ map named (filter (is_at file) held)
at_file file index held h w = (h w).1 file ∙ names_own file held

filter_named : (test : ℕ × PathNo → Bool) (held : List Having) → filter test (map named held) ≡ map named (filter (λ h. test (named h)) held)
filter_named test [] = refl
filter_named test (h ∷ hs) = by (test (named h)) (filter_named test hs)
  where
    by : (b : Bool) → filter test (map named hs) ≡ map named (filter (λ x. test (named x)) hs) → cond b (named h ∷ filter test (map named hs)) (filter test (map named hs)) ≡ map named (cond b (h ∷ filter (λ x. test (named x)) hs) (filter (λ x. test (named x)) hs))
    by true e = ap (λ ns. named h ∷ ns) e
    by false e = e

-- the names at the file whose leases leave
leaving_names : (file : List ℕ) (index : FileIndex) (held : List Having) → IsOwn index held → index.whole ≡ true → filter (λ n. leaves n.1 held) (named_at index.files file) ≡ map named (filter (leaves_at file) held)
leaving_names file index held h w =
    ap (filter (λ n. leaves n.1 held)) (at_file file index held h w)
    ∙ filter_named (λ n. leaves n.1 held) (filter (is_at file) held)
    ∙ ap (map named) (filter_alike (λ x. leaves (lease_of x).no held) is_leaving (filter (is_at file) held) (λ x i. leaves_own held x (own_rises index held h w) (In-filter (is_at file) x held i)) ∙ filter_both is_leaving (is_at file) held)

-- ## They go one after another

some_found : (test : ℕ × PathNo → Bool) (names : Names) (number : PathNo) (o : Option (ℕ × PathNo)) → find test names ≡ o → Some number ≡ option_map (λ n. n.1) o → (r : ℕ × PathNo) × (In r names × ((test r ≡ true) × (r.1 ≡ number)))
some_found test names number None e q = absurd (cc q)
some_found test names number (Some r) e q = let f = found test names r e in let same_number : r.1 ≡ number = cc q in (r, (f.0, (f.1, same_number)))

none_found : (o : Option (ℕ × PathNo)) → None ≡ option_map (λ n. n.1) o → o ≡ None
none_found None q = refl
none_found (Some r) q = absurd (cc q)

-- a leaving lease of the file has the number
pub record IsGoing (file : List ℕ) (held : List Having) (number : PathNo) : Type 0 where
  pub lease : Having
  pub stands : In lease held
  pub leaving : leaves_at file lease ≡ true
  pub numbered : (lease_of lease).no ≡ number

pub going : (file : List ℕ) (index : FileIndex) (held : List Having) (number : PathNo) → IsOwn index held → index.whole ≡ true → Some number ≡ option_map (λ n. n.1) (find (λ n. leaves n.1 held) (named_at index.files file)) → IsGoing file held number
going file index held number h w q =
    let f = some_found (λ n. leaves n.1 held) (named_at index.files file) number (find (λ n. leaves n.1 held) (named_at index.files file)) refl q in
    let m = In-map named f.0 (filter (is_at file) held) (subst (λ ns. In f.0 ns) (at_file file index held h w) f.1.0) in
    let i = In-filter (is_at file) m.0 held m.1.0 in
    record {
      lease = m.0;
      stands = i;
      leaving = joined (is_at file m.0) (is_leaving m.0) (passed (is_at file) m.0 held m.1.0) (sym (leaves_own held m.0 (own_rises index held h w) i) ∙ ap (λ n. leaves n.1 held) (sym m.1.1) ∙ f.1.1.0);
      numbered = ap (λ n. n.1) (sym m.1.1) ∙ f.1.1.1;
    }

pub fewer_of : (file : List ℕ) (held : List Having) (number : PathNo) → IsGoing file held number → length (filter (λ h. not (is_of number h)) held) < length held
fewer_of file held number g = fewer (λ h. not (is_of number h)) g.lease held g.stands (ap not (ap (λ n. same_path_no n number) g.numbered ∙ same_no_self number))

-- without it the others that stay are no others
pub kept_without : (file : List ℕ) (held : List Having) (number : PathNo) → are_rising no_of_held held ≡ true → IsGoing file held number
    → filter (λ h. not (leaves_at file h)) (filter (λ h. not (is_of number h)) held) ≡ filter (λ h. not (leaves_at file h)) held
kept_without file held number o g =
    filter_both (λ h. not (leaves_at file h)) (λ h. not (is_of number h)) held
    ∙ filter_alike (λ h. not (is_of number h) && not (leaves_at file h)) (λ h. not (leaves_at file h)) held (λ h i. by h i (is_of number h) refl)
  where
    by : (h : Having) → In h held → (b : Bool) → is_of number h ≡ b → (not (is_of number h) && not (leaves_at file h)) ≡ not (leaves_at file h)
    by h i true e =
        let one : h ≡ g.lease = one_of_number no_of_held held o h g.lease i g.stands (ap (same_path_no (lease_of h).no) g.numbered ∙ e) in
        ap (λ b. not b && not (leaves_at file h)) e ∙ sym (ap not (ap (leaves_at file) one ∙ g.leaving))
    by h i false e = ap (λ b. not b && not (leaves_at file h)) e

-- until none is left
pub all_stay : (file : List ℕ) (index : FileIndex) (held : List Having) → IsOwn index held → index.whole ≡ true → None ≡ option_map (λ n. n.1) (find (λ n. leaves n.1 held) (named_at index.files file)) → held ≡ filter (λ h. not (leaves_at file h)) held
all_stay file index held h w q = sym (all_pass (λ x. not (leaves_at file x)) held (λ x i. by x i (leaves_at file x) refl))
  where
    by : (x : Having) → In x held → (b : Bool) → leaves_at file x ≡ b → not (leaves_at file x) ≡ true
    by x i true e =
        let t = both (is_at file x) (is_leaving x) e in
        let there = subst (λ ns. In (named x) ns) (sym (at_file file index held h w)) (In-mapped named x (filter (is_at file) held) (passes (is_at file) x held i t.0)) in
        let not_there = none_pass (λ n. leaves n.1 held) (named_at index.files file) (none_found _ q) (named x) there in
        let wrong : true ≡ false = sym t.1 ∙ sym (leaves_own held x (own_rises index held h w) i) ∙ not_there in
        absurd (cc wrong)
    by x i false e = ap not e

-- ## One file further

-- where a path goes over the file, nothing of it goes
needed_more : (leaves needed among here : Bool) → (here ≡ true → needed ≡ true) → ((leaves && not needed) && (among || here)) ≡ ((leaves && not needed) && among)
needed_more false needed among here f = refl
needed_more true true among here f = refl
needed_more true false among true f = let wrong : false ≡ true = f refl in absurd (cc wrong)
needed_more true false true false f = refl
needed_more true false false false f = refl

-- else those that leave do
unneeded_more : (leaves needed among here : Bool) → (here ≡ true → needed ≡ false) → ((leaves && not needed) && (among || here)) ≡ (((leaves && not needed) && among) || (here && leaves))
unneeded_more false needed among true f = refl
unneeded_more false needed among false f = refl
unneeded_more true true among true f = let wrong : true ≡ false = f refl in absurd (cc wrong)
unneeded_more true true among false f = refl
unneeded_more true false true here f = refl
unneeded_more true false false true f = refl
unneeded_more true false false false f = refl

needed_here : (issued : List PathLease) (file : List ℕ) (h : Having) (b : Bool) → list_any (goes_over file) issued ≡ b → same (lease_of h).file file ≡ true → is_needed issued h ≡ b
needed_here issued file h b e t = ap (λ f. list_any (goes_over f) issued) (same_is (lease_of h).file file t) ∙ e

freed_same : (issued : List PathLease) (files : List (List ℕ)) (i : ℕ) (d : List ℕ) (h : Having) → i < length files → list_any (goes_over (get_or files i d)) issued ≡ true → is_freed issued (take (i + 1) files) h ≡ is_freed issued (take i files) h
freed_same issued files i d h l e =
    ap (λ b. goes_back is_leaving issued h && b) (among_more (lease_of h).file files i d l)
    ∙ needed_more (is_leaving h) (is_needed issued h) (is_among (lease_of h).file (take i files)) (same (lease_of h).file (get_or files i d)) (needed_here issued (get_or files i d) h true e)

freed_more : (issued : List PathLease) (files : List (List ℕ)) (i : ℕ) (d : List ℕ) (h : Having) → i < length files → list_any (goes_over (get_or files i d)) issued ≡ false
    → is_freed issued (take (i + 1) files) h ≡ (is_freed issued (take i files) h || leaves_at (get_or files i d) h)
freed_more issued files i d h l e =
    ap (λ b. goes_back is_leaving issued h && b) (among_more (lease_of h).file files i d l)
    ∙ unneeded_more (is_leaving h) (is_needed issued h) (is_among (lease_of h).file (take i files)) (same (lease_of h).file (get_or files i d)) (needed_here issued (get_or files i d) h false e)

neither_is : (a b : Bool) → (not a && not b) ≡ not (a || b)
neither_is true b = refl
neither_is false b = refl

pub without_more : (issued : List PathLease) (files : List (List ℕ)) (i : ℕ) (d : List ℕ) (held : List Having) → i < length files → list_any (goes_over (get_or files i d)) issued ≡ false
    → filter (λ h. not (leaves_at (get_or files i d) h)) (without_freed issued (take i files) held) ≡ without_freed issued (take (i + 1) files) held
without_more issued files i d held l e =
    filter_both (λ h. not (leaves_at (get_or files i d) h)) (λ h. not (is_freed issued (take i files) h)) held
    ∙ filter_alike (λ h. not (is_freed issued (take i files) h) && not (leaves_at (get_or files i d) h)) (λ h. not (is_freed issued (take (i + 1) files) h)) held
    (λ h _. neither_is (is_freed issued (take i files) h) (leaves_at (get_or files i d) h) ∙ ap not (sym (freed_more issued files i d h l e)))

pub without_same : (issued : List PathLease) (files : List (List ℕ)) (i : ℕ) (d : List ℕ) (held : List Having) → i < length files → list_any (goes_over (get_or files i d)) issued ≡ true
    → without_freed issued (take i files) held ≡ without_freed issued (take (i + 1) files) held
without_same issued files i d held l e =
    filter_alike (λ h. not (is_freed issued (take i files) h)) (λ h. not (is_freed issued (take (i + 1) files) h)) held (λ h _. ap not (sym (freed_same issued files i d h l e)))

-- of no files none goes
pub without_none : (issued : List PathLease) (held : List Having) → held ≡ without_freed issued [] held
without_none issued held = sym (all_pass (λ h. not (is_freed issued [] h)) held (λ h _. never (goes_back is_leaving issued h)))
  where
    never : (b : Bool) → not (b && false) ≡ true
    never true = refl
    never false = refl

pub names_none : (issued : List PathLease) (held : List Having) → [] ≡ freed_names issued [] held
names_none issued held = sym (ap (map named) (none_stay (is_freed issued []) held (λ h _. never (goes_back is_leaving issued h))))
  where
    never : (b : Bool) → (b && false) ≡ false
    never true = refl
    never false = refl

-- ## Their names, in order

-- of those that pass a test, all pass one that is easier
lifted : (a b : Having → Bool) (held : List Having) (x : ℕ × PathNo) → ((h : Having) → a h ≡ true → b h ≡ true) → In x (map named (filter a held)) → In x (map named (filter b held))
lifted a b held x f i =
    let m = In-map named x (filter a held) i in
    subst (λ y. In y (map named (filter b held))) (sym m.1.1)
    (In-mapped named m.0 (filter b held) (passes b m.0 held (In-filter a m.0 held m.1.0) (f m.0 (passed a m.0 held m.1.0))))

among_all : (a : Having → Bool) (held : List Having) → AreAmong (map named (filter a held)) (map named held)
among_all a held x i =
    let m = In-map named x (filter a held) i in
    subst (λ y. In y (map named held)) (sym m.1.1) (In-mapped named m.0 held (In-filter a m.0 held m.1.0))

second_or : (a b : Bool) → b ≡ true → (a || b) ≡ true
second_or true b h = refl
second_or false b h = h

-- those of two tests
names_joined : (a b : Having → Bool) (held : List Having) → are_rising no_of_held held ≡ true → with_each (map named (filter b held)) (map named (filter a held)) ≡ map named (filter (λ h. a h || b h) held)
names_joined a b held o =
    same_rising no_of_named (with_each added there_were) all
    (each_rises added there_were (held_rise (filter a held) (rising_filter no_of_held a held o)))
    (held_rise (filter (λ h. a h || b h) held) (rising_filter no_of_held (λ h. a h || b h) held o))
    (λ x i. elim (each_from x added there_were i) as (λ _. In x all) [
      | inl j ↦ lifted b (λ h. a h || b h) held x (λ h e. second_or (a h) (b h) e) j
      | inr j ↦ lifted a (λ h. a h || b h) held x (λ h e. ap (λ c. c || b h) e) j
    ])
    (λ x i. let m = In-map named x (filter (λ h. a h || b h) held) i in subst (λ y. In y (with_each added there_were)) (sym m.1.1) (there m.0 (In-filter (λ h. a h || b h) m.0 held m.1.0) (passed (λ h. a h || b h) m.0 held m.1.0)))
  where
    added : Names
    added = map named (filter b held)

    there_were : Names
    there_were = map named (filter a held)

    all : Names
    all = map named (filter (λ h. a h || b h) held)

    there : (h : Having) → In h held → (a h || b h) ≡ true → In (named h) (with_each added there_were)
    there h i t = by (a h) refl t
      where
        by : (c : Bool) → a h ≡ c → (c || b h) ≡ true → In (named h) (with_each added there_were)
        by true e k = each_kept (named h) added there_were (In-mapped named h (filter a held) (passes a h held i e))
        by false e k = each_here (map named held) added there_were (held_rise held o) (among_all b held) (among_all a held) (named h) (In-mapped named h (filter b held) (passes b h held i k))

-- the next of some names joins them where it passes
pub passing_step : (test : ℕ × PathNo → Bool) (ns names : List (ℕ × PathNo)) (i : ℕ) (d : ℕ × PathNo) → i < length ns → (b : Bool) → test (get_or ns i d) ≡ b
    → with_each (filter test (drop (i + 1) ns)) (cond b (with_once (get_or ns i d) names) names) ≡ with_each (filter test (drop i ns)) names
passing_step test ns names i d l b e = by b ∙ sym (ap (λ ms. with_each ms names) (filter_step test ns i d l ∙ ap (λ c. cond c (get_or ns i d ∷ filter test (drop (i + 1) ns)) (filter test (drop (i + 1) ns))) e))
  where
    by : (c : Bool) → with_each (filter test (drop (i + 1) ns)) (cond c (with_once (get_or ns i d) names) names) ≡ with_each (cond c (get_or ns i d ∷ filter test (drop (i + 1) ns)) (filter test (drop (i + 1) ns))) names
    by true = refl
    by false = refl

pub freed_rise : (issued : List PathLease) (files : List (List ℕ)) (held : List Having) → are_rising no_of_held held ≡ true → are_rising no_of_named (freed_names issued files held) ≡ true
freed_rise issued files held o = held_rise (filter (is_freed issued files) held) (rising_filter no_of_held (is_freed issued files) held o)

pub names_more : (issued : List PathLease) (files : List (List ℕ)) (i : ℕ) (d : List ℕ) (index : FileIndex) (held : List Having) → IsOwn index held → index.whole ≡ true → i < length files → list_any (goes_over (get_or files i d)) issued ≡ false
    → with_each (filter (λ n. leaves n.1 held) (named_at index.files (get_or files i d))) (freed_names issued (take i files) held) ≡ freed_names issued (take (i + 1) files) held
names_more issued files i d index held h w l e =
    ap (λ ns. with_each ns (freed_names issued (take i files) held)) (leaving_names (get_or files i d) index held h w)
    ∙ names_joined (is_freed issued (take i files)) (leaves_at (get_or files i d)) held (own_rises index held h w)
    ∙ ap (map named) (filter_alike (λ x. is_freed issued (take i files) x || leaves_at (get_or files i d) x) (is_freed issued (take (i + 1) files)) held (λ x _. sym (freed_more issued files i d x l e)))

pub names_same : (issued : List PathLease) (files : List (List ℕ)) (i : ℕ) (d : List ℕ) (held : List Having) → i < length files → list_any (goes_over (get_or files i d)) issued ≡ true
    → freed_names issued (take i files) held ≡ freed_names issued (take (i + 1) files) held
names_same issued files i d held l e = ap (map named) (filter_alike (is_freed issued (take i files)) (is_freed issued (take (i + 1) files)) held (λ h _. sym (freed_same issued files i d h l e)))

-- ## Once one that was given out is back

-- what a path went over, but goes over no more, its path went over
over_gone : (test : PathLease → Bool) (number : PathNo) (issued : List PathLease) (l : PathLease) → are_rising no_of_issued issued ≡ true → Some l ≡ find (has_no number) issued
    → list_any test issued ≡ true → list_any test (without_no number issued) ≡ false → test l ≡ true
over_gone test number issued l o e t n =
    let x = any_In test issued t in
    by x.0 x.1.0 x.1.1 (has_no number x.0) refl
  where
    by : (x : PathLease) → In x issued → test x ≡ true → (b : Bool) → has_no number x ≡ b → test l ≡ true
    by x j k true q =
        let there = found (has_no number) issued l (sym e) in
        let one : x ≡ l = one_of_number no_of_issued issued o x l j there.0 (ap (same_path_no x.no) (same_no_is l.no number there.1) ∙ q) in
        ap test (sym one) ∙ k
    by x j k false q =
        let wrong : true ≡ false = sym k ∙ none_any test (without_no number issued) n x (passes (λ y. not (has_no number y)) x issued j (ap not q)) in
        absurd (cc wrong)

-- each that goes is of a file of its path
goes_along : (number : PathNo) (issued : List PathLease) (held : List Having) (l : PathLease) (h : Having) → are_rising no_of_issued issued ≡ true → Some l ≡ find (has_no number) issued → AreNeeded issued held → In h held
    → goes_back is_leaving (without_no number issued) h ≡ is_freed (without_no number issued) l.path h
goes_along number issued held l h o e n j =
    by (is_leaving h) refl (is_needed (without_no number issued) h) refl
  where
    needed : (b : Bool) → (true && not b) ≡ false → b ≡ true
    needed true q = refl
    needed false q = absurd (cc q)

    by : (a : Bool) → is_leaving h ≡ a → (b : Bool) → is_needed (without_no number issued) h ≡ b → (a && not b) ≡ ((a && not b) && is_among (lease_of h).file l.path)
    by false q b r = refl
    by true q true r = refl
    by true q false r =
        let before : is_needed issued h ≡ true = needed (is_needed issued h) (sym (ap (λ a. a && not (is_needed issued h)) q) ∙ none_any (goes_back is_leaving issued) held n h j) in
        sym (over_gone (goes_over (lease_of h).file) number issued l o e before r)

pub releases_freed : (number : PathNo) (issued : List PathLease) (held : List Having) (l : PathLease) → are_rising no_of_issued issued ≡ true → Some l ≡ find (has_no number) issued → AreNeeded issued held
    → freed_names (without_no number issued) l.path held ≡ releases is_leaving (without_no number issued) held
releases_freed number issued held l o e n =
    sym (ap (map named) (filter_alike (goes_back is_leaving (without_no number issued)) (is_freed (without_no number issued) l.path) held (λ h j. goes_along number issued held l h o e n j)))

-- one that leaves is asked back already
still_leaving : (held : List Having) → map (asked_back is_leaving) held ≡ held
still_leaving [] = refl
still_leaving (Held l ∷ hs) = ap (λ xs. Held l ∷ xs) (still_leaving hs)
still_leaving (Leaving l ∷ hs) = ap (λ xs. Leaving l ∷ xs) (still_leaving hs)

pub left_freed : (number : PathNo) (issued : List PathLease) (held : List Having) (l : PathLease) → are_rising no_of_issued issued ≡ true → Some l ≡ find (has_no number) issued → AreNeeded issued held
    → without_freed (without_no number issued) l.path held ≡ held_after is_leaving (without_no number issued) held
left_freed number issued held l o e n =
    sym (still_leaving (filter (λ h. not (goes_back is_leaving (without_no number issued) h)) held)
    ∙ filter_alike (λ h. not (goes_back is_leaving (without_no number issued) h)) (λ h. not (is_freed (without_no number issued) l.path h)) held (λ h j. ap not (goes_along number issued held l h o e n j)))

-- where it is not given out, nothing changes
none_back : (number : PathNo) (issued : List PathLease) → None ≡ find (has_no number) issued → without_no number issued ≡ issued
none_back number issued e = all_pass (λ l. not (has_no number l)) issued (λ l i. ap not (none_pass (has_no number) issued (sym e) l i))

pub none_released : (number : PathNo) (issued : List PathLease) (held : List Having) → None ≡ find (has_no number) issued → AreNeeded issued held → [] ≡ releases is_leaving (without_no number issued) held
none_released number issued held e n =
    sym (ap (λ ls. releases is_leaving ls held) (none_back number issued e) ∙ ap (map named) (none_stay (goes_back is_leaving issued) held (λ h i. none_any (goes_back is_leaving issued) held n h i)))

pub all_left : (number : PathNo) (issued : List PathLease) (held : List Having) → None ≡ find (has_no number) issued → AreNeeded issued held → held ≡ held_after is_leaving (without_no number issued) held
all_left number issued held e n =
    sym (ap (λ ls. held_after is_leaving ls held) (none_back number issued e)
    ∙ still_leaving (filter (λ h. not (goes_back is_leaving issued h)) held)
    ∙ all_pass (λ h. not (goes_back is_leaving issued h)) held (λ h i. ap not (none_any (goes_back is_leaving issued) held n h i)))
