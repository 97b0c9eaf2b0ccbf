-- Leases from other servers that are leaving, or go behind the others and are forgotten there.
use Rattle.std.proofs.Common.{◌≡◌, ◌∙◌, ◌&&◌, ◌||◌, ℕ, zero, suc, ◌<◌, ◌≤◌, ◌+◌, ◌-◌, Bool, true, false, not, List, [], ◌∷◌, ◌++◌, refl, ap, cond, sym, subst, map, length, get_or, take, drop, inl, inr, arith}
use Rattle.std.specs.Prelude.{Some, None, slice_set}
use Rattle.std.specs.List.{filter, list_all, list_any, position, remove}
use Rattle.std.specs.FinMap.{entries}
use Rattle.std.proofs.lemmas.List.{append-nil, drop-append-le, drop_more, get_or-take, length-take, length-take-le, take-append-le, take-take, take_all}
use Rattle.fs_ident.specs.In.{In}
use Rattle.fs_ident.specs.Maps.{map_of}
use Rattle.fs_ident.specs.Ordered.{Keyed}
use Rattle.fs_ident.specs.declared.actor.PathNo.{PathNo}
use Rattle.fs_ident.proofs.Booleans.{both}
use Rattle.fs_ident.proofs.Standing.{In-append, In-filter, In-map, In-mapped}
use Rattle.fs_map.specs.Map.{Owners, begins}
use Rattle.fs_path.specs.Index.{ChangesAmong, IsHad, IsOver, are_rising, at_own, is_numbered, no_of_held, no_of_issued, without_named}
use Rattle.fs_path.specs.Into.{AreSomeOf, HasLeases, Parts, given_names, is_named, names_from, names_there, parted, parted_each, parts_at, with_own, without_those}
use Rattle.fs_path.specs.Leases.{PathLease, goes_over, has_no, named_to_peer, path_before, same_path_no}
use Rattle.fs_path.specs.Returns.{asked_back, goes_back, held_after, is_into, is_needed, is_of, recalls, without_no}
use Rattle.fs_path.specs.Tables.{lease_of, leaving}
use Rattle.fs_path.specs.Walk.{is_among}
use Rattle.fs_path.specs.declared.having.Having.{Having}
use Rattle.fs_path.specs.declared.held_index.HeldIndex.{HeldIndex}
use Rattle.fs_path.specs.declared.index.FileIndex.{FileIndex}
use Rattle.fs_path.proofs.Merges.{one_of_number}
use Rattle.fs_path.proofs.Over.{recalls_without}
use Rattle.fs_path.proofs.Own.{left_there, none_there, went_there}
use Rattle.fs_path.proofs.PrefixWalks.{named_into}
use Rattle.fs_path.proofs.Rising.{ahead_unlike, at_number, behind_none, none_go, placed_any, rising_filter, rising_map, same_no_self, same_no_symm, unlike}

-- ## The one at a place

abbrev parts_of : List Having → List Having → Parts
parts_of l g = record { left = l; gone = g }

same_parts : (a b c d : List Having) → a ≡ b → c ≡ d → parts_of a c ≡ parts_of b d
same_parts a b c d e f = ap (λ l. parts_of l c) e ∙ ap (parts_of b) f

-- it is in front, and another stands in its place
put_in_front : (held : List Having) (front at : ℕ) (y : Having) → front ≤ length held → at < front → parts_at front (slice_set held at y) ≡ parts_of (slice_set (take front held) at y) (drop front held)
put_in_front held zero at y l w = absurd (omega (arith, w))
put_in_front [] (suc front) at y l w = absurd (omega (arith, l))
put_in_front (x ∷ xs) (suc front) zero y l w = refl
put_in_front (x ∷ xs) (suc front) (suc at) y l w = ap (λ (p : Parts). parts_of (x ∷ p.left) p.gone) (put_in_front xs front at y (omega (arith, l)) (omega (arith, w)))

-- it goes behind all others
moved_behind : (held rest : List Having) (front at : ℕ) → front < length held → at ≤ front → parts_at front (remove held at ++ rest) ≡ parts_of (remove (take (suc front) held) at) (drop (suc front) held ++ rest)
moved_behind [] rest front at l w = absurd (omega (arith, l))
moved_behind (x ∷ xs) rest front zero l w =
    same_parts (take front (xs ++ rest)) (take front xs) (drop front (xs ++ rest)) (drop front xs ++ rest) (take-append-le front xs rest (omega (arith, l))) (drop-append-le front xs rest (omega (arith, l)))
moved_behind (x ∷ xs) rest zero (suc at) l w = absurd (omega (arith, w))
moved_behind (x ∷ xs) rest (suc front) (suc at) l w = ap (λ (p : Parts). parts_of (x ∷ p.left) p.gone) (moved_behind xs rest front at (omega (arith, l)) (omega (arith, w)))

put_behind : (held rest : List Having) (front at : ℕ) → front ≤ length held → at < front → parts_at (front - 1) (remove held at ++ rest) ≡ parts_of (remove (take front held) at) (drop front held ++ rest)
put_behind held rest zero at l w = absurd (omega (arith, w))
put_behind held rest (suc front) at l w =
    let e : suc front - 1 ≡ front = omega arith in
    ap (λ n. parts_at n (remove held at ++ rest)) e ∙ moved_behind held rest front at (omega (arith, l)) (omega (arith, w))

-- ## The one of a number

none_goes : (number : PathNo) (issued : List PathLease) (held : List Having) → list_any (is_numbered no_of_held number) held ≡ false → filter (goes_back (is_of number) issued) held ≡ []
none_goes number issued [] e = refl
none_goes number issued (h ∷ hs) e = by (is_of number h) e (none_goes number issued hs)
  where
    by : (b : Bool) → (b || list_any (is_numbered no_of_held number) hs) ≡ false → (list_any (is_numbered no_of_held number) hs ≡ false → filter (goes_back (is_of number) issued) hs ≡ [])
        → cond (b && not (is_needed issued h)) (h ∷ filter (goes_back (is_of number) issued) hs) (filter (goes_back (is_of number) issued) hs) ≡ []
    by true q rest = absurd (cc q)
    by false q rest = rest q

one_goes : (number : PathNo) (issued : List PathLease) (held : List Having) (i : ℕ) (d : Having) → are_rising no_of_held held ≡ true → i < length held → is_of number (get_or held i d) ≡ true
    → filter (goes_back (is_of number) issued) held ≡ cond (not (is_needed issued (get_or held i d))) (get_or held i d ∷ []) []
one_goes number issued [] i d o l e = absurd (omega (arith, l))
one_goes number issued (x ∷ xs) zero d o l e =
    ap (λ b. cond (b && not (is_needed issued x)) (x ∷ filter (goes_back (is_of number) issued) xs) (filter (goes_back (is_of number) issued) xs)) e
    ∙ ap (λ hs. cond (not (is_needed issued x)) (x ∷ hs) hs) (none_goes number issued xs (behind_none no_of_held number x xs o e))
one_goes number issued (x ∷ xs) (suc i) d o l e =
    ap (λ b. cond (b && not (is_needed issued x)) (x ∷ filter (goes_back (is_of number) issued) xs) (filter (goes_back (is_of number) issued) xs)) (ahead_unlike no_of_held number x xs i d o (omega (arith, l)) e)
    ∙ one_goes number issued xs i d (both (list_all (λ y. path_before (lease_of x).no (lease_of y).no) xs) (are_rising no_of_held xs) o).1 (omega (arith, l)) e

pub record IsAt (number : PathNo) (held : List Having) (front at : ℕ) (x : Having) : Type 0 where
  pub within : at < front
  pub inside : at < length (take front held)
  pub has : is_of number (get_or (take front held) at x) ≡ true
  pub is : x ≡ get_or (take front held) at x

is_at : (number : PathNo) (held : List Having) (front at : ℕ) (x : Having) → front ≤ length held → Some at ≡ position (is_numbered no_of_held number) (take front held) → x ≡ get_or held at x → IsAt number held front at x
is_at number held front at x l p e =
    let there = at_number (is_numbered no_of_held number) (take front held) at x p in
    let within : at < front = subst (λ n. at < n) (length-take-le front held l) there.0 in
    record { within = within; inside = there.0; has = there.1; is = e ∙ sym (get_or-take front held at x within) }

pub part_left : (number : PathNo) (issued : List PathLease) (held : List Having) (front at : ℕ) (x : Having) → front ≤ length held → are_rising no_of_held (take front held) ≡ true
    → Some at ≡ position (is_numbered no_of_held number) (take front held) → x ≡ get_or held at x → is_needed issued x ≡ true → parts_at front (slice_set held at (leaving x)) ≡ parted issued number (parts_at front held)
part_left number issued held front at x l o p e n =
    let a = is_at number held front at x l p e in
    let needed = ap (is_needed issued) (sym a.is) ∙ n in
    put_in_front held front at (leaving x) l a.within
    ∙ same_parts _ _ _ _
    (ap (λ y. slice_set (take front held) at (leaving y)) a.is ∙ sym (left_there number issued (take front held) at x o a.inside a.has needed))
    (sym (ap (λ hs. drop front held ++ hs) (one_goes number issued (take front held) at x o a.inside a.has ∙ ap (λ b. cond (not b) (get_or (take front held) at x ∷ []) []) needed) ∙ append-nil (drop front held)))

pub part_gone : (number : PathNo) (issued : List PathLease) (held : List Having) (front at : ℕ) (x : Having) → front ≤ length held → are_rising no_of_held (take front held) ≡ true
    → Some at ≡ position (is_numbered no_of_held number) (take front held) → x ≡ get_or held at x → is_needed issued x ≡ false → parts_at (front - 1) (remove held at ++ x ∷ []) ≡ parted issued number (parts_at front held)
part_gone number issued held front at x l o p e n =
    let a = is_at number held front at x l p e in
    let needed = ap (is_needed issued) (sym a.is) ∙ n in
    put_behind held (x ∷ []) front at l a.within
    ∙ same_parts _ _ _ _
    (sym (went_there number issued (take front held) at x o a.inside a.has needed))
    (ap (λ y. drop front held ++ y ∷ []) a.is ∙ sym (ap (λ hs. drop front held ++ hs) (one_goes number issued (take front held) at x o a.inside a.has ∙ ap (λ b. cond (not b) (get_or (take front held) at x ∷ []) []) needed)))

pub part_none : (number : PathNo) (issued : List PathLease) (held : List Having) (front : ℕ) → None ≡ position (is_numbered no_of_held number) (take front held) → parts_at front held ≡ parted issued number (parts_at front held)
part_none number issued held front p =
    same_parts _ _ _ _ (sym (none_there number issued (take front held) p))
    (sym (ap (λ hs. drop front held ++ hs) (none_goes number issued (take front held) (sym (placed_any (is_numbered no_of_held number) (take front held) None p))) ∙ append-nil (drop front held)))

-- the names of two lists, one list after the other
parted_append : (issued : List PathLease) (ns ms : List (ℕ × PathNo)) (p : Parts) → parted_each issued (ns ++ ms) p ≡ parted_each issued ms (parted_each issued ns p)
parted_append issued [] ms p = refl
parted_append issued (n ∷ ns) ms p = parted_append issued ns ms (parted issued n.1 p)

-- the walk's next file
pub parted_more : (owners : Owners) (me : ℕ) (prefix : List ℕ) (issued : List PathLease) (e : List ℕ × List (ℕ × PathNo)) (es : Keyed (List (ℕ × PathNo))) (p : Parts) → begins prefix e.0 ≡ true
    → parted_each issued (names_from owners me prefix (e ∷ es)) p ≡ parted_each issued (names_from owners me prefix es) (parted_each issued (given_names owners me prefix e) p)
parted_more owners me prefix issued e es p b =
    ap (λ t. parted_each issued (cond t (given_names owners me prefix e ++ names_from owners me prefix es) []) p) b
    ∙ parted_append issued (given_names owners me prefix e) (names_from owners me prefix es) p

pub parted_step : (issued : List PathLease) (ns : List (ℕ × PathNo)) (i : ℕ) (d : ℕ × PathNo) (p : Parts) → i < length ns → parted_each issued (drop i ns) p ≡ parted_each issued (drop (i + 1) ns) (parted issued (get_or ns i d).1 p)
parted_step issued ns i d p l = ap (λ ms. parted_each issued ms p) (drop_more ns i d l)

-- the numbers of those in front rise still
after_rises : (asked : Having → Bool) (issued : List PathLease) (held : List Having) → are_rising no_of_held held ≡ true → are_rising no_of_held (held_after asked issued held) ≡ true
after_rises asked issued held o =
    rising_map no_of_held no_of_held (asked_back asked) (λ h. by h (asked h)) (filter (λ h. not (goes_back asked issued h)) held)
    ∙ rising_filter no_of_held (λ h. not (goes_back asked issued h)) held o
  where
    by : (h : Having) (b : Bool) → no_of_held (cond b (leaving h) h) ≡ no_of_held h
    by h true = refl
    by h false = refl

pub parts_rise : (number : PathNo) (issued : List PathLease) (front now : ℕ) (held new : List Having) → are_rising no_of_held (take front held) ≡ true → parts_at now new ≡ parted issued number (parts_at front held) → are_rising no_of_held (take now new) ≡ true
parts_rise number issued front now held new o e = ap (λ (p : Parts). are_rising no_of_held p.left) e ∙ after_rises (is_of number) issued (take front held) o

pub parts_rise_each : (ns : List (ℕ × PathNo)) (issued : List PathLease) (p : Parts) → are_rising no_of_held p.left ≡ true → are_rising no_of_held (parted_each issued ns p).left ≡ true
parts_rise_each [] issued p o = o
parts_rise_each (n ∷ ns) issued p o = parts_rise_each ns issued (parted issued n.1 p) (after_rises (is_of n.1) issued p.left o)

-- ## What is left in front

-- what is left of a lease that is asked back, or not, and needed, or not
abbrev stays : Bool → Bool → Having → List Having → List Having
stays true true h hs = leaving h ∷ hs
stays true false h hs = hs
stays false needed h hs = h ∷ hs

after_first : (asked : Having → Bool) (issued : List PathLease) (h : Having) (hs : List Having) (p r : Bool) → asked h ≡ p → is_needed issued h ≡ r → held_after asked issued (h ∷ hs) ≡ stays p r h (held_after asked issued hs)
after_first asked issued h hs p r e f =
    ap (λ b. map (asked_back asked) (cond (not (b && not (is_needed issued h))) (h ∷ filter (λ x. not (goes_back asked issued x)) hs) (filter (λ x. not (goes_back asked issued x)) hs))) e
    ∙ ap (λ b. map (asked_back asked) (cond (not (p && not b)) (h ∷ filter (λ x. not (goes_back asked issued x)) hs) (filter (λ x. not (goes_back asked issued x)) hs))) f
    ∙ by p r e
  where
    by : (b c : Bool) → asked h ≡ b → map (asked_back asked) (cond (not (b && not c)) (h ∷ filter (λ x. not (goes_back asked issued x)) hs) (filter (λ x. not (goes_back asked issued x)) hs)) ≡ stays b c h (held_after asked issued hs)
    by true true t = ap (λ d. cond d (leaving h) h ∷ held_after asked issued hs) t
    by true false t = refl
    by false true t = ap (λ d. cond d (leaving h) h ∷ held_after asked issued hs) t
    by false false t = ap (λ d. cond d (leaving h) h ∷ held_after asked issued hs) t

-- one question after another is one for either
after_both : (a b : Having → Bool) (issued : List PathLease) (held : List Having) → ((h : Having) → b (leaving h) ≡ b h) → held_after b issued (held_after a issued held) ≡ held_after (λ h. a h || b h) issued held
after_both a b issued [] same = refl
after_both a b issued (h ∷ hs) same =
    ap (held_after b issued) (after_first a issued h hs (a h) (is_needed issued h) refl refl)
    ∙ by (a h) (b h) (is_needed issued h) refl refl
    ∙ ap (stays (a h || b h) (is_needed issued h) h) (after_both a b issued hs same)
    ∙ sym (after_first (λ x. a x || b x) issued h hs (a h || b h) (is_needed issued h) refl refl)
  where
    again : (q : Bool) (xs : List Having) → stays q true (leaving h) xs ≡ leaving h ∷ xs
    again true xs = refl
    again false xs = refl

    by : (p q r : Bool) → b h ≡ q → is_needed issued h ≡ r → held_after b issued (stays p r h (held_after a issued hs)) ≡ stays (p || q) r h (held_after b issued (held_after a issued hs))
    by true q true e f = after_first b issued (leaving h) (held_after a issued hs) q true (same h ∙ e) f ∙ again q (held_after b issued (held_after a issued hs))
    by true q false e f = refl
    by false q r e f = after_first b issued h (held_after a issued hs) q r e f

after_alike : (a b : Having → Bool) (issued : List PathLease) (held : List Having) → ((h : Having) → In h held → a h ≡ b h) → held_after a issued held ≡ held_after b issued held
after_alike a b issued [] same = refl
after_alike a b issued (h ∷ hs) same =
    after_first a issued h hs (b h) (is_needed issued h) (same h (inl refl)) refl
    ∙ ap (stays (b h) (is_needed issued h) h) (after_alike a b issued hs (λ x i. same x (inr i)))
    ∙ sym (after_first b issued h hs (b h) (is_needed issued h) refl refl)

after_none : (issued : List PathLease) (held : List Having) → held ≡ held_after (λ h. false) issued held
after_none issued [] = refl
after_none issued (h ∷ hs) = ap (λ xs. h ∷ xs) (after_none issued hs)

left_each : (ns : List (ℕ × PathNo)) (issued : List PathLease) (p : Parts) → (parted_each issued ns p).left ≡ held_after (λ h. is_named ns (lease_of h).no) issued p.left
left_each [] issued p = after_none issued p.left
left_each (n ∷ ns) issued p =
    left_each ns issued (parted issued n.1 p)
    ∙ after_both (is_of n.1) (λ h. is_named ns (lease_of h).no) issued p.left (λ h. refl)
    ∙ after_alike _ _ issued p.left (λ h i. ap (λ b. b || is_named ns (lease_of h).no) (same_no_symm (lease_of h).no n.1))

-- by the names below a prefix
pub left_into : (owners : Owners) (me : ℕ) (prefix : List ℕ) (via : FileIndex) (issued : List PathLease) (held : List Having) → IsOver via (map lease_of held) → via.whole ≡ true
    → (parted_each issued (names_there owners me prefix (entries (map_of via.files))) (parts_at (length held) held)).left ≡ held_after (is_into owners me prefix) issued held
left_into owners me prefix via issued held h w =
    left_each (names_there owners me prefix (entries (map_of via.files))) issued (parts_at (length held) held)
    ∙ ap (held_after (λ x. is_named (names_there owners me prefix (entries (map_of via.files))) (lease_of x).no) issued) (take_all (length held) held (omega arith))
    ∙ after_alike _ (is_into owners me prefix) issued held (λ x i. named_into owners me prefix via (map lease_of held) h w (lease_of x) (In-mapped lease_of x held i))

-- ## What is behind

those_append : (a b : List Having) (ls : List PathLease) → without_those (a ++ b) ls ≡ without_those b (without_those a ls)
those_append [] b ls = refl
those_append (h ∷ hs) b ls = those_append hs b (without_no (lease_of h).no ls)

filter_swap : (p q : PathLease → Bool) (ls : List PathLease) → filter p (filter q ls) ≡ filter q (filter p ls)
filter_swap p q [] = refl
filter_swap p q (l ∷ ls) = by (p l) refl (q l) refl (filter_swap p q ls)
  where
    by : (b : Bool) → p l ≡ b → (c : Bool) → q l ≡ c → filter p (filter q ls) ≡ filter q (filter p ls) → filter p (cond c (l ∷ filter q ls) (filter q ls)) ≡ filter q (cond b (l ∷ filter p ls) (filter p ls))
    by true e true f r = ap (λ d. cond d (l ∷ filter p (filter q ls)) (filter p (filter q ls))) e ∙ ap (λ xs. l ∷ xs) r ∙ sym (ap (λ d. cond d (l ∷ filter q (filter p ls)) (filter q (filter p ls))) f)
    by true e false f r = r ∙ sym (ap (λ d. cond d (l ∷ filter q (filter p ls)) (filter q (filter p ls))) f)
    by false e true f r = ap (λ d. cond d (l ∷ filter p (filter q ls)) (filter p (filter q ls))) e ∙ r
    by false e false f r = r

those_swap : (number : PathNo) (hs : List Having) (ls : List PathLease) → without_no number (without_those hs ls) ≡ without_those hs (without_no number ls)
those_swap number [] ls = refl
those_swap number (h ∷ hs) ls =
    those_swap number hs (without_no (lease_of h).no ls)
    ∙ ap (without_those hs) (filter_swap (λ l. not (has_no number l)) (λ l. not (has_no (lease_of h).no l)) ls)

those_rise : (hs : List Having) (ls : List PathLease) → are_rising no_of_issued ls ≡ true → are_rising no_of_issued (without_those hs ls) ≡ true
those_rise [] ls o = o
those_rise (h ∷ hs) ls o = those_rise hs (without_no (lease_of h).no ls) (rising_filter no_of_issued (λ l. not (has_no (lease_of h).no l)) ls o)

In-those : (l : PathLease) (hs : List Having) (ls : List PathLease) → In l (without_those hs ls) → In l ls
In-those l [] ls i = i
In-those l (h ∷ hs) ls i = In-filter (λ x. not (has_no (lease_of h).no x)) l ls (In-those l hs (without_no (lease_of h).no ls) i)

-- one whose number is lesser than theirs stays
first_stays : (test : Having → Bool) (l : PathLease) (xs : List Having) (ls : List PathLease) → list_all (λ x. path_before l.no (lease_of x).no) xs ≡ true → without_those (filter test xs) (l ∷ ls) ≡ l ∷ without_those (filter test xs) ls
first_stays test l [] ls h = refl
first_stays test l (x ∷ xs) ls h =
    let q = both (path_before l.no (lease_of x).no) (list_all (λ y. path_before l.no (lease_of y).no) xs) h in
    by (test x) (unlike l.no (lease_of x).no q.0) (first_stays test l xs (without_no (lease_of x).no ls) q.1) (first_stays test l xs ls q.1)
  where
    by : (b : Bool) → same_path_no l.no (lease_of x).no ≡ false → without_those (filter test xs) (l ∷ without_no (lease_of x).no ls) ≡ l ∷ without_those (filter test xs) (without_no (lease_of x).no ls)
        → without_those (filter test xs) (l ∷ ls) ≡ l ∷ without_those (filter test xs) ls
        → without_those (cond b (x ∷ filter test xs) (filter test xs)) (l ∷ ls) ≡ l ∷ without_those (cond b (x ∷ filter test xs) (filter test xs)) ls
    by true e passes rest = ap (λ c. without_those (filter test xs) (cond (not c) (l ∷ without_no (lease_of x).no ls) (without_no (lease_of x).no ls))) e ∙ passes
    by false e passes rest = rest

-- without those that pass there are those that do not
rest_stay : (test : Having → Bool) (xs : List Having) → are_rising no_of_held xs ≡ true → map lease_of (filter (λ x. not (test x)) xs) ≡ without_those (filter test xs) (map lease_of xs)
rest_stay test [] o = refl
rest_stay test (x ∷ xs) o =
    let q = both (list_all (λ y. path_before (lease_of x).no (lease_of y).no) xs) (are_rising no_of_held xs) o in
    by (test x) q.0 (rest_stay test xs q.1)
  where
    goes : without_no (lease_of x).no (lease_of x ∷ map lease_of xs) ≡ map lease_of xs
    goes =
        ap (λ c. cond (not c) (lease_of x ∷ without_no (lease_of x).no (map lease_of xs)) (without_no (lease_of x).no (map lease_of xs))) (same_no_self (lease_of x).no)
        ∙ none_go no_of_issued (lease_of x).no (map lease_of xs) (behind_none no_of_issued (lease_of x).no (lease_of x) (map lease_of xs) (rising_map no_of_held no_of_issued lease_of (λ h. refl) (x ∷ xs) ∙ o) (same_no_self (lease_of x).no))

    by : (b : Bool) → list_all (λ y. path_before (lease_of x).no (lease_of y).no) xs ≡ true → map lease_of (filter (λ y. not (test y)) xs) ≡ without_those (filter test xs) (map lease_of xs)
        → map lease_of (cond (not b) (x ∷ filter (λ y. not (test y)) xs) (filter (λ y. not (test y)) xs)) ≡ without_those (cond b (x ∷ filter test xs) (filter test xs)) (lease_of x ∷ map lease_of xs)
    by true f e = e ∙ sym (ap (without_those (filter test xs)) goes)
    by false f e = ap (λ ls. lease_of x ∷ ls) e ∙ sym (first_stays test (lease_of x) xs (map lease_of xs) f)

left_leases : (asked : Having → Bool) (held : List Having) → map lease_of (map (asked_back asked) held) ≡ map lease_of held
left_leases asked [] = refl
left_leases asked (h ∷ hs) = by (asked h) ∙ ap (λ ls. lease_of h ∷ ls) (left_leases asked hs)
  where
    by : (b : Bool) → lease_of (cond b (leaving h) h) ∷ map lease_of (map (asked_back asked) hs) ≡ lease_of h ∷ map lease_of (map (asked_back asked) hs)
    by true = refl
    by false = refl

-- what is left are the leases without those behind, which are some of them
pub record ArePartsOf (p : Parts) (ls : List PathLease) : Type 0 where
  pub left : map lease_of p.left ≡ without_those p.gone ls
  pub gone : AreSomeOf p.gone ls

parted_of : (number : PathNo) (issued : List PathLease) (p : Parts) (ls : List PathLease) → ArePartsOf p ls → ArePartsOf (parted issued number p) ls
parted_of number issued p ls h =
    let rises : are_rising no_of_held p.left ≡ true = sym (rising_map no_of_held no_of_issued lease_of (λ x. refl) p.left) ∙ ap (are_rising no_of_issued) h.left ∙ those_rise p.gone ls h.gone.0 in
    record {
      left =
          left_leases (is_of number) (filter (λ x. not (goes_back (is_of number) issued x)) p.left)
          ∙ rest_stay (goes_back (is_of number) issued) p.left rises
          ∙ ap (without_those (filter (goes_back (is_of number) issued) p.left)) h.left
          ∙ sym (those_append p.gone (filter (goes_back (is_of number) issued) p.left) ls);
      gone = (
        h.gone.0,
        λ x i. elim (In-append x p.gone (filter (goes_back (is_of number) issued) p.left) i) as (λ _. In (lease_of x) ls) [
          | inl j ↦ h.gone.1 x j
          | inr j ↦ In-those (lease_of x) p.gone ls (subst (In (lease_of x)) h.left (In-mapped lease_of x p.left (In-filter (goes_back (is_of number) issued) x p.left j)))
        ],
      );
    }

parts_of_each : (ns : List (ℕ × PathNo)) (issued : List PathLease) (p : Parts) (ls : List PathLease) → ArePartsOf p ls → ArePartsOf (parted_each issued ns p) ls
parts_of_each [] issued p ls h = h
parts_of_each (n ∷ ns) issued p ls h = parts_of_each ns issued (parted issued n.1 p) ls (parted_of n.1 issued p ls h)

-- at first all are in front
all_left : (held : List Having) → are_rising no_of_held held ≡ true → ArePartsOf (parts_at (length held) held) (map lease_of held)
all_left held o = record {
  left = ap (map lease_of) (take_all (length held) held (omega arith)) ∙ sym (ap (λ hs. without_those hs (map lease_of held)) (none_behind held));
  gone = (rising_map no_of_held no_of_issued lease_of (λ x. refl) held ∙ o, λ x i. absurd (subst (In x) (none_behind held) i));
}
  where
    none_behind : (xs : List Having) → drop (length xs) xs ≡ []
    none_behind [] = refl
    none_behind (x ∷ xs) = none_behind xs

pub parts_into : (ns : List (ℕ × PathNo)) (issued : List PathLease) (held : List Having) → are_rising no_of_held held ≡ true → ArePartsOf (parted_each issued ns (parts_at (length held) held)) (map lease_of held)
parts_into ns issued held o = parts_of_each ns issued (parts_at (length held) held) (map lease_of held) (all_left held o)

-- ## They are forgotten

-- none of the number passes
not_recalled : (test : PathLease → Bool) (number : PathNo) (ls : List PathLease) → ((l : PathLease) → In l ls → has_no number l ≡ true → test l ≡ false) → recalls test ls ≡ recalls test (without_no number ls)
not_recalled test number [] h = refl
not_recalled test number (l ∷ ls) h = by (has_no number l) refl (not_recalled test number ls (λ x i. h x (inr i)))
  where
    kept : (c : Bool) → recalls test ls ≡ recalls test (without_no number ls) → map named_to_peer (cond c (l ∷ filter test ls) (filter test ls)) ≡ map named_to_peer (cond c (l ∷ filter test (without_no number ls)) (filter test (without_no number ls)))
    kept true r = ap (λ ns. named_to_peer l ∷ ns) r
    kept false r = r

    by : (b : Bool) → has_no number l ≡ b → recalls test ls ≡ recalls test (without_no number ls)
        → map named_to_peer (cond (test l) (l ∷ filter test ls) (filter test ls)) ≡ recalls test (cond (not b) (l ∷ without_no number ls) (without_no number ls))
    by true e r = ap (λ c. map named_to_peer (cond c (l ∷ filter test ls) (filter test ls))) (h l (inl refl) e) ∙ r
    by false e r = kept (test l) r

-- one lease is forgotten at the files of its path
forgot_one : (x : PathLease) (ls : List PathLease) (old now : FileIndex) → IsOver old ls → ((l : PathLease) → In l ls → has_no x.no l ≡ true → l.path ≡ x.path) → now.whole ≡ old.whole
    → (old.whole ≡ true → ChangesAmong (without_named x.no) x.path old.files now.files) → IsOver now (without_no x.no ls)
forgot_one x ls old now h one same change w =
    let before : old.whole ≡ true = sym same ∙ w in
    let q = h before in (
      rising_filter no_of_issued (λ l. not (has_no x.no l)) ls q.0,
      λ f. change before f ∙ ap (λ ns. cond (is_among f x.path) (without_named x.no ns) ns) (q.1 f) ∙ by f (is_among f x.path) refl,
    )
  where
    by : (f : List ℕ) (b : Bool) → is_among f x.path ≡ b → cond b (without_named x.no (recalls (goes_over f) ls)) (recalls (goes_over f) ls) ≡ recalls (goes_over f) (without_no x.no ls)
    by f true t = sym (recalls_without (goes_over f) x.no ls)
    by f false t = not_recalled (goes_over f) x.no ls (λ l i e. ap (is_among f) (one l i e) ∙ t)

own_without : (number : PathNo) (ls : List PathLease) → without_no number (map with_own ls) ≡ map with_own (without_no number ls)
own_without number [] = refl
own_without number (l ∷ ls) = by (has_no number l) (own_without number ls)
  where
    by : (b : Bool) → without_no number (map with_own ls) ≡ map with_own (without_no number ls)
        → cond (not b) (with_own l ∷ without_no number (map with_own ls)) (without_no number (map with_own ls)) ≡ map with_own (cond (not b) (l ∷ without_no number ls) (without_no number ls))
    by true e = e
    by false e = ap (λ xs. with_own l ∷ xs) e

-- the lease is the one of its number
abbrev IsOne : PathLease → List PathLease → Type 0
IsOne x ls = (l : PathLease) → In l ls → has_no x.no l ≡ true → l ≡ x

forgot_lease : (x : PathLease) (ls : List PathLease) (old now : HeldIndex) → IsOne x ls → HasLeases old ls → now.own.whole ≡ old.own.whole → now.via.whole ≡ old.via.whole
    → (old.own.whole ≡ true → ChangesAmong (without_named x.no) (x.file ∷ []) old.own.files now.own.files) → (old.via.whole ≡ true → ChangesAmong (without_named x.no) x.path old.via.files now.via.files)
    → HasLeases now (without_no x.no ls)
forgot_lease x ls old now one h own_whole via_whole own via = (
  subst (IsOver now.own) (own_without x.no ls) (forgot_one (with_own x) (map with_own ls) old.own now.own h.0 at_own_file own_whole own),
  forgot_one x ls old.via now.via h.1 (λ l i e. ap (λ (y : PathLease). y.path) (one l i e)) via_whole via,
)
  where
    at_own_file : (l : PathLease) → In l (map with_own ls) → has_no x.no l ≡ true → l.path ≡ x.file ∷ []
    at_own_file l i e =
        let m = In-map with_own l ls i in
        ap (λ (y : PathLease). y.path) m.1.1 ∙ ap (λ (y : PathLease). y.file ∷ []) (one m.0 m.1.0 (ap (has_no x.no) (sym m.1.1) ∙ e))

one_among : (ls : List PathLease) (hs : List Having) (x : PathLease) → are_rising no_of_issued ls ≡ true → In x ls → IsOne x (without_those hs ls)
one_among ls hs x o i l j e = one_of_number no_of_issued ls o l x (In-those l hs ls j) i e

-- ## One after another from the end

removed_last : (xs : List Having) (n : ℕ) → length xs ≡ suc n → remove xs n ≡ take n xs
removed_last [] n e = absurd (omega (arith, e))
removed_last (x ∷ xs) zero e = none xs (omega (arith, e))
  where
    none : (ys : List Having) → length ys ≡ 0 → ys ≡ []
    none [] f = refl
    none (y ∷ ys) f = absurd (omega (arith, f))
removed_last (x ∷ xs) (suc n) e = ap (λ ys. x ∷ ys) (removed_last xs n (omega (arith, e)))

In-drop : (h : Having) (xs : List Having) (i j : ℕ) → i ≤ j → In h (drop j xs) → In h (drop i xs)
In-drop h xs zero zero l k = k
In-drop h [] zero (suc j) l k = absurd k
In-drop h (x ∷ xs) zero (suc j) l k = inr (In-drop h xs zero j (omega arith) k)
In-drop h xs (suc i) zero l k = absurd (omega (arith, l))
In-drop h [] (suc i) (suc j) l k = absurd k
In-drop h (x ∷ xs) (suc i) (suc j) l k = In-drop h xs i j (omega (arith, l)) k

-- what was forgotten behind the place, and the one there
pub gone_more : (all : List Having) (front at : ℕ) (h : Having) (ls : List PathLease) (old mid now : HeldIndex) → front ≤ at → at < length all → h ≡ get_or all at h
    → (HasLeases old ls → HasLeases mid (without_those (drop (at + 1) all) ls)) → AreSomeOf (drop front all) ls
    → mid.own.whole ≡ now.own.whole → mid.via.whole ≡ now.via.whole
    → (mid.own.whole ≡ true → ChangesAmong (without_named (lease_of h).no) ((lease_of h).file ∷ []) mid.own.files now.own.files) → (mid.via.whole ≡ true → ChangesAmong (without_named (lease_of h).no) (lease_of h).path mid.via.files now.via.files)
    → HasLeases old ls → HasLeases now (without_those (drop at all) ls)
gone_more all front at h ls old mid now b l e f some own_whole via_whole own via has =
    let d : drop at all ≡ h ∷ drop (at + 1) all = drop_more all at h l ∙ ap (λ y. y ∷ drop (at + 1) all) (sym e) in
    let i : In (lease_of h) ls = some.1 h (In-drop h all front at b (subst (In h) (sym d) (inl refl))) in
    subst (HasLeases now) (those_swap (lease_of h).no (drop (at + 1) all) ls ∙ sym (ap (λ hs. without_those hs ls) d))
    (forgot_lease (lease_of h) (without_those (drop (at + 1) all) ls) mid now (one_among ls (drop (at + 1) all) (lease_of h) some.0 i) (f has) (sym own_whole) (sym via_whole) own via)

-- the place, and the lease there, of which the last one is taken off
pub record IsShorter (all : List Having) (at : ℕ) (h : Having) (new : List Having) : Type 0 where
  pub inside : at < length all
  pub is : h ≡ get_or all at h
  pub held : new ≡ take at all

pub last_goes : (held all new : List Having) (at : ℕ) (h : Having) → held ≡ take (length held) all → length held ≡ suc at → new ≡ remove held at → h ≡ get_or held at h → IsShorter all at h new
last_goes held all new at h e n r g =
    let same : held ≡ take (suc at) all = e ∙ ap (λ m. take m all) n in
    record {
      inside = let m = length-take (suc at) all in omega (arith, ap length same, m, n);
      is = g ∙ ap (λ hs. get_or hs at h) same ∙ get_or-take (suc at) all at h (omega arith);
      held = r ∙ removed_last held at n ∙ ap (take at) same ∙ take-take at (suc at) all (omega arith);
    }

-- ## Both indexes

own_leases : (held : List Having) → map at_own held ≡ map with_own (map lease_of held)
own_leases [] = refl
own_leases (h ∷ hs) = ap (λ ls. at_own h ∷ ls) (own_leases hs)

pub has_leases : (had : HeldIndex) (held : List Having) → IsHad had held → HasLeases had (map lease_of held)
has_leases had held h = (subst (IsOver had.own) (own_leases held) h.0, h.1)

pub has_held : (had : HeldIndex) (held : List Having) → HasLeases had (map lease_of held) → IsHad had held
has_held had held h = (subst (IsOver had.own) (sym (own_leases held)) h.0, h.1)
