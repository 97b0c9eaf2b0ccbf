-- Laws of readings that fall back by the skew at most, and of the first that does not.
use Rattle.std.proofs.Common.{◌≡◌, ℕ, ◌<◌, ◌≤◌, ◌+◌, ◌-◌, List, [], ◌∷◌, ◌++◌, length, take, drop, get_or, refl, ap, arith, sym, ◌∙◌, subst, append_assoc, length-append}
use Rattle.std.specs.Prelude.{max}
use Rattle.std.specs.List.{AllByRecursion}
use Rattle.std.proofs.lemmas.List.{take_more, take-append-drop, length-take-le}
use Rattle.fs_schedule.specs.declared.event.Event.{Event}
use Rattle.fs_schedule.specs.declared.event.Head.{Head}
use Rattle.fs_schedule.specs.declared.event.Head.TheVariants.{Direct, Servers}
use Rattle.fs_schedule.specs.Skew.{IsWithinSkew, IsFirstSkew, IsTimely, IsUntimely}
use Rattle.fs_schedule.specs.Ahead.{AllReadBelow, IsFirstAhead}

-- ## Events in order

pub all_append : (P : Event → Type 0) (xs ys : List Event) → AllByRecursion P xs → AllByRecursion P ys → AllByRecursion P (xs ++ ys)
all_append P [] ys h k = k
all_append P (x ∷ xs) ys h k = (h.0, all_append P xs ys h.1 k)

all_at : (P : Event → Type 0) (xs : List Event) (x : Event) (ys : List Event) → AllByRecursion P (xs ++ x ∷ ys) → P x
all_at P [] x ys h = h.0
all_at P (z ∷ xs) x ys h = all_at P xs x ys h.1

pub all_weaker : (m n : ℕ) (es : List Event) → m ≤ n → AllReadBelow m es → AllReadBelow n es
all_weaker m n [] le h = tt
all_weaker m n (e ∷ es) le h = (omega (arith, h.0), all_weaker m n es le h.1)

-- of two events the later one is not more than the skew before the earlier one
within_pair : (skew : ℕ) (before between after : List Event) (ahead late : Event) → IsWithinSkew skew (before ++ (ahead ∷ (between ++ (late ∷ after)))) → ahead.reading ≤ late.reading + skew
within_pair skew [] between after ahead late h = all_at (λ (f : Event). ahead.reading ≤ f.reading + skew) between late after h.0
within_pair skew (e ∷ es) between after ahead late h = within_pair skew es between after ahead late h.1

pub within_push : (skew : ℕ) (es : List Event) (e : Event) → IsWithinSkew skew es → AllReadBelow (e.reading + skew) es → IsWithinSkew skew (es ++ e ∷ [])
within_push skew [] e h k = (tt, tt)
within_push skew (f ∷ es) e h k = (all_append (λ (g : Event). f.reading ≤ g.reading + skew) es (e ∷ []) h.0 (k.0, tt), within_push skew es e h.1 k.1)

-- ## The first skew is one

-- of two ways to part a list one is in front of the other, or they are one
pub data Parted (xs ys : List Event) (x y : Event) : Type 0 where
  Sooner : (zs : List Event) → ys ≡ xs ++ (x ∷ zs) → Parted xs ys x y
  Later : (zs : List Event) → xs ≡ ys ++ (y ∷ zs) → Parted xs ys x y
  Same : xs ≡ ys → x ≡ y → Parted xs ys x y

parted_more : (z : Event) (xs ys : List Event) (x y : Event) → Parted xs ys x y → Parted (z ∷ xs) (z ∷ ys) x y
parted_more z xs ys x y (Sooner zs e) = Sooner zs (ap (λ (ws : List Event). z ∷ ws) e)
parted_more z xs ys x y (Later zs e) = Later zs (ap (λ (ws : List Event). z ∷ ws) e)
parted_more z xs ys x y (Same e k) = Same (ap (λ (ws : List Event). z ∷ ws) e) k

parted : (xs ys : List Event) (x y : Event) (ms ns : List Event) → xs ++ (x ∷ ms) ≡ ys ++ (y ∷ ns) → Parted xs ys x y
parted [] [] x y ms ns e = let q : x ≡ y = cc in Same refl q
parted [] (z ∷ ys) x y ms ns e = let q : z ≡ x = cc in Sooner ys (ap (λ (w : Event). w ∷ ys) q)
parted (z ∷ xs) [] x y ms ns e = let q : z ≡ y = cc in Later xs (ap (λ (w : Event). w ∷ xs) q)
parted (z ∷ xs) (w ∷ ys) x y ms ns e =
    let q : z ≡ w = cc in
    let r : xs ++ (x ∷ ms) ≡ ys ++ (y ∷ ns) = cc in
    let P : Event → Type 0 = λ v. Parted (z ∷ xs) (v ∷ ys) x y in
    subst P q (parted_more z xs ys x y (parted xs ys x y ms ns r))

-- the late event can stand nowhere in front of another one
not_sooner : (skew : ℕ) (es zs all : List Event) (m i : ℕ) → (h : IsFirstSkew skew es m i) → all ≡ (h.before ++ (h.ahead ∷ h.between)) ++ (h.late ∷ zs) → IsWithinSkew skew all → ⊥
not_sooner skew es zs all m i h e w =
    let pair = within_pair skew h.before h.between zs h.ahead h.late (subst (IsWithinSkew skew) (e ∙ append_assoc h.before (h.ahead ∷ h.between) (h.late ∷ zs)) w) in
    omega (arith, pair, h.gap)

-- of what is ahead of the late event the first one can stand nowhere in front of another one
not_ahead : (bound : ℕ) (before all zs : List Event) (ahead : Event) → bound < ahead.reading → all ≡ before ++ (ahead ∷ zs) → AllReadBelow bound all → ⊥
not_ahead bound before all zs ahead gap e h =
    let le = all_at (λ (f : Event). f.reading ≤ bound) before ahead zs (subst (AllReadBelow bound) e h) in
    omega (arith, le, gap)

whole : (skew : ℕ) (es : List Event) (m i : ℕ) → (h : IsFirstSkew skew es m i) → es ≡ (h.before ++ (h.ahead ∷ h.between)) ++ (h.late ∷ h.after)
whole skew es m i h = h.all ∙ sym (append_assoc h.before (h.ahead ∷ h.between) (h.late ∷ h.after))

front_length : (before between : List Event) (ahead : Event) → length (before ++ (ahead ∷ between)) ≡ length before + length between + 1
front_length before between ahead = length-append before (ahead ∷ between) ∙ omega arith

same_lines : (skew : ℕ) (es : List Event) (m n i j : ℕ) → (h : IsFirstSkew skew es m i) (k : IsFirstSkew skew es n j) → h.before ++ (h.ahead ∷ h.between) ≡ k.before ++ (k.ahead ∷ k.between) → h.late ≡ k.late → Parted h.before k.before h.ahead k.ahead → (m ≡ n) × (i ≡ j)
same_lines skew es m n i j h k e q (Sooner zs p) = absurd (not_ahead (h.late.reading + skew) h.before k.before zs h.ahead h.gap p (subst (λ (l : Event). AllReadBelow (l.reading + skew) k.before) (sym q) k.first))
same_lines skew es m n i j h k e q (Later zs p) = absurd (not_ahead (k.late.reading + skew) k.before h.before zs k.ahead k.gap p (subst (λ (l : Event). AllReadBelow (l.reading + skew) h.before) q h.first))
same_lines skew es m n i j h k e q (Same p r) =
    let before : length h.before ≡ length k.before = ap length p in
    let fronts : length (h.before ++ (h.ahead ∷ h.between)) ≡ length (k.before ++ (k.ahead ∷ k.between)) = ap length e in
    let one = front_length h.before h.between h.ahead in
    let other = front_length k.before k.between k.ahead in
    (omega (arith, before, fronts, one, other, h.late_line, k.late_line), omega (arith, before, h.earlier_line, k.earlier_line))

same_skew : (skew : ℕ) (es : List Event) (m n i j : ℕ) → (h : IsFirstSkew skew es m i) (k : IsFirstSkew skew es n j) → Parted (h.before ++ (h.ahead ∷ h.between)) (k.before ++ (k.ahead ∷ k.between)) h.late k.late → (m ≡ n) × (i ≡ j)
same_skew skew es m n i j h k (Sooner zs e) = absurd (not_sooner skew es zs (k.before ++ (k.ahead ∷ k.between)) m i h e k.timely)
same_skew skew es m n i j h k (Later zs e) = absurd (not_sooner skew es zs (h.before ++ (h.ahead ∷ h.between)) n j k e h.timely)
same_skew skew es m n i j h k (Same e q) = same_lines skew es m n i j h k e q (parted h.before k.before h.ahead k.ahead h.between k.between e)

one_skew : (skew : ℕ) (es : List Event) (m n i j : ℕ) → IsFirstSkew skew es m i → IsFirstSkew skew es n j → (m ≡ n) × (i ≡ j)
one_skew skew es m n i j h k = same_skew skew es m n i j h k (parted (h.before ++ (h.ahead ∷ h.between)) (k.before ++ (k.ahead ∷ k.between)) h.late k.late h.after k.after (sym (whole skew es m i h) ∙ whole skew es n j k))

-- events have one first skew
pub one_untimely : (head : Head) (es : List Event) (m n i j : ℕ) → IsUntimely head es m i → IsUntimely head es n j → (m ≡ n) × (i ≡ j)
one_untimely Direct es m n i j h k = absurd h
one_untimely (Servers servers skew term) es m n i j h k = one_skew skew es m n i j h k

-- and then they are not timely
pub timely_or_not : (head : Head) (es : List Event) (m i : ℕ) → IsTimely head es → IsUntimely head es m i → ⊥
timely_or_not Direct es m i t h = h
timely_or_not (Servers servers skew term) es m i t h = not_sooner skew es h.after es m i h (whole skew es m i h) t

-- ## One pass

-- what is known of the events so far: they are timely, and this is the greatest reading
pub record IsSeen (skew : ℕ) (seen : List Event) (greatest : ℕ) : Type 0 where
  pub timely : IsWithinSkew skew seen
  pub above : AllReadBelow greatest seen
  pub least : (bound : ℕ) → AllReadBelow bound seen → greatest ≤ bound

all_push : (P : Event → Type 0) (es : List Event) (e : Event) → AllByRecursion P es → P e → AllByRecursion P (es ++ e ∷ [])
all_push P es e h k = all_append P es (e ∷ []) h (k, tt)

all_front : (P : Event → Type 0) (xs ys : List Event) → AllByRecursion P (xs ++ ys) → AllByRecursion P xs
all_front P [] ys h = tt
all_front P (x ∷ xs) ys h = (h.0, all_front P xs ys h.1)

push : (skew : ℕ) (seen : List Event) (e : Event) (greatest more : ℕ) → IsSeen skew seen greatest → greatest - e.reading ≤ skew → more ≡ max greatest e.reading → IsSeen skew (seen ++ e ∷ []) more
push skew seen e greatest more h le q = record {
  timely = within_push skew seen e h.timely (all_weaker greatest (e.reading + skew) seen (omega arith) h.above);
  above = all_push (λ (f : Event). f.reading ≤ more) seen e (all_weaker greatest more seen (omega arith) h.above) (omega arith);
  least = λ b a. let low : e.reading ≤ b = all_at (λ (f : Event). f.reading ≤ b) seen e [] a in let g = h.least b (all_front (λ (f : Event). f.reading ≤ b) seen (e ∷ []) a) in omega (arith, low, g);
}

pub seen_more : (skew : ℕ) (es : List Event) (at greatest more : ℕ) (e : Event) → at < length es → greatest - (get_or es at e).reading ≤ skew → more ≡ max greatest (get_or es at e).reading → IsSeen skew (take at es) greatest → IsSeen skew (take (at + 1) es) more
seen_more skew es at greatest more e lt le q h =
    let P : List Event → Type 0 = λ fs. IsSeen skew fs more in
    subst P (sym (take_more es at e lt)) (push skew (take at es) (get_or es at e) greatest more h le q)

-- some event is ahead
pub none_ahead : (skew : ℕ) (seen : List Event) (greatest reading : ℕ) → skew < greatest - reading → IsSeen skew seen greatest → AllReadBelow (reading + skew) seen → ⊥
none_ahead skew seen greatest reading lt h a = let le = h.least (reading + skew) a in omega (arith, le)

-- the list around one of its events
around : (es : List Event) (at : ℕ) (e : Event) → at < length es → es ≡ take at es ++ (get_or es at e ∷ drop (at + 1) es)
around es at e lt = sym (take-append-drop (at + 1) es) ∙ ap (λ (fs : List Event). fs ++ drop (at + 1) es) (take_more es at e lt) ∙ append_assoc (take at es) (get_or es at e ∷ []) (drop (at + 1) es)

pub ahead_here : (bound : ℕ) (es : List Event) (at : ℕ) (e : Event) → at < length es → bound < (get_or es at e).reading → AllReadBelow bound (take at es) → IsFirstAhead bound es at
ahead_here bound es at e lt gap h = record {
  before = take at es;
  ahead = get_or es at e;
  after = drop (at + 1) es;
  all = around es at e lt;
  place = sym (length-take-le at es (omega arith));
  above = gap;
  first = h;
}

pub skew_here : (skew : ℕ) (es : List Event) (at greatest i : ℕ) (e : Event) → at < length es → IsSeen skew (take at es) greatest → IsFirstAhead ((get_or es at e).reading + skew) (take at es) i → IsFirstSkew skew es (at + 2) (i + 2)
skew_here skew es at greatest i e lt h f =
    let taken : length (take at es) ≡ at = length-take-le at es (omega arith) in
    let parts : length (take at es) ≡ length f.before + length f.after + 1 = ap length f.all ∙ front_length f.before f.after f.ahead in
    record {
      before = f.before;
      ahead = f.ahead;
      between = f.after;
      late = get_or es at e;
      after = drop (at + 1) es;
      all = around es at e lt ∙ ap (λ (fs : List Event). fs ++ (get_or es at e ∷ drop (at + 1) es)) f.all ∙ append_assoc f.before (f.ahead ∷ f.after) (get_or es at e ∷ drop (at + 1) es);
      earlier_line = omega (arith, f.place);
      late_line = omega (arith, taken, parts);
      gap = f.above;
      timely = subst (IsWithinSkew skew) f.all h.timely;
      first = f.first;
    }
