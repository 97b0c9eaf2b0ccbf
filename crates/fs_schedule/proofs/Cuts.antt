-- Laws of cutting bytes at a separator, and of the lines and words that are cut off.
use Rattle.std.proofs.Common.{◌≡◌, ℕ, ◌==◌, Bool, true, false, List, [], ◌∷◌, ◌++◌, refl, ap, arith, sym, ◌∙◌, cond, append_assoc, length, take}
use Rattle.std.specs.Prelude.{Option, Some, None}
use Rattle.std.specs.List.{AllByRecursion}
use Rattle.std.proofs.lemmas.Bool.Decides.{nat_tests}
use Rattle.fs_schedule.specs.Words.{Word, Bare, Quoted}
use Rattle.fs_schedule.specs.Words.{word_text, line_text}
use Rattle.fs_schedule.specs.Separated.{Lacks, rest_from, FitsWord, AreWords, begins_quoted}
use Rattle.fs_schedule.specs.Lines.{is_end, with_first, lines_of}

-- ## Bytes without the separator

pub lacks_push : (b : ℕ) (xs : List ℕ) (y : ℕ) → Lacks b xs → (y == b) ≡ false → Lacks b (xs ++ y ∷ [])
lacks_push b [] y h e = (e, tt)
lacks_push b (x ∷ xs) y h e = (h.0, lacks_push b xs y h.1 e)

pub lacks_append : (b : ℕ) (xs ys : List ℕ) → Lacks b xs → Lacks b ys → Lacks b (xs ++ ys)
lacks_append b [] ys h k = k
lacks_append b (x ∷ xs) ys h k = (h.0, lacks_append b xs ys h.1 k)

differs : (x b : ℕ) → (x == b) ≡ false → b ≡ x → ⊥
differs x b f e = grind (arith, nat_tests)

rest_from_one : (b : ℕ) (o p : Option (List ℕ)) → rest_from b o ≡ rest_from b p → o ≡ p
rest_from_one b None None e = refl
rest_from_one b None (Some ys) e = absurd (cc)
rest_from_one b (Some xs) None e = absurd (cc)
rest_from_one b (Some xs) (Some ys) e = let q : xs ≡ ys = cc in ap (λ (zs : List ℕ). Some zs) q

not_rest_from : (b x : ℕ) (o : Option (List ℕ)) (xs : List ℕ) → (x == b) ≡ false → rest_from b o ≡ x ∷ xs → ⊥
not_rest_from b x None xs f e = cc
not_rest_from b x (Some ys) xs f e = let q : b ≡ x = cc in differs x b f q

-- there is one way to cut
pub cut_one : (b : ℕ) (xs ys : List ℕ) (o p : Option (List ℕ)) → Lacks b xs → Lacks b ys → xs ++ rest_from b o ≡ ys ++ rest_from b p → (xs ≡ ys) × (o ≡ p)
cut_one b [] [] o p h k e = (refl, rest_from_one b o p e)
cut_one b [] (y ∷ ys) o p h k e = absurd (not_rest_from b y o (ys ++ rest_from b p) k.0 e)
cut_one b (x ∷ xs) [] o p h k e = absurd (not_rest_from b x p (xs ++ rest_from b o) h.0 (sym e))
cut_one b (x ∷ xs) (y ∷ ys) o p h k e =
    let q : x ≡ y = cc in
    let r : xs ++ rest_from b o ≡ ys ++ rest_from b p = cc in
    let s = cut_one b xs ys o p h.1 k.1 r in
    let t : xs ≡ ys = s.0 in
    let u : x ∷ xs ≡ y ∷ ys = cc in
    (u, s.1)

-- ## Lines

lines_cons : (x : ℕ) (xs : List ℕ) → (x == 10) ≡ false → lines_of (x ∷ xs) ≡ with_first x (lines_of xs)
lines_cons x xs f = ap (λ (t : Bool). cond t ([] ∷ (cond (is_end xs) [] (lines_of xs))) (with_first x (lines_of xs))) f

-- what follows a line feed
abbrev pub lines_behind : Option (List ℕ) → List (List ℕ)
lines_behind None = []
lines_behind (Some bytes) = cond (is_end bytes) [] (lines_of bytes)

pub lines_cut : (xs : List ℕ) (o : Option (List ℕ)) → Lacks 10 xs → lines_of (xs ++ rest_from 10 o) ≡ xs ∷ lines_behind o
lines_cut [] None h = refl
lines_cut [] (Some ys) h = refl
lines_cut (x ∷ xs) o h = lines_cons x (xs ++ rest_from 10 o) h.0 ∙ ap (with_first x) (lines_cut xs o h.1)

-- ## Words

-- the text behind the first word, without the space
abbrev pub rest_text : List Word → Option (List ℕ)
rest_text [] = None
rest_text (w ∷ ws) = Some (line_text (w ∷ ws))

pub line_with_rest : (w : Word) (ws : List Word) → line_text (w ∷ ws) ≡ word_text w ++ rest_from 32 (rest_text ws)
line_with_rest w [] = refl
line_with_rest w (v ∷ vs) = refl

head_one : (x y : ℕ) (xs ys : List ℕ) → x ∷ xs ≡ y ∷ ys → x ≡ y
head_one x y xs ys e = cc

not_quoted : (q : ℕ) (xs ys : List ℕ) (o : Option (List ℕ)) → (q == 32) ≡ false → AllByRecursion (λ x. (x == q) ≡ false) (take 1 xs) → xs ++ rest_from 32 o ≡ q ∷ ys → ⊥
not_quoted q [] ys o f h e = not_rest_from 32 q o ys f e
not_quoted q (x ∷ xs) ys o f h e = differs x q h.0 (sym (head_one x q (xs ++ rest_from 32 o) ys e))

unquoted : (xs : List ℕ) → begins_quoted xs ≡ false → AllByRecursion (λ x. (x == 34) ≡ false) (take 1 xs)
unquoted [] h = tt
unquoted (x ∷ xs) h = (h, tt)

quoted_text : (name : List ℕ) (o : Option (List ℕ)) → word_text (Quoted name) ++ rest_from 32 o ≡ 34 ∷ (name ++ rest_from 34 (Some (rest_from 32 o)))
quoted_text name o = ap (λ (xs : List ℕ). 34 ∷ xs) (append_assoc name (34 ∷ []) (rest_from 32 o))

-- there is one word at a front
pub word_one : (w v : Word) (o p : Option (List ℕ)) → FitsWord w → FitsWord v → word_text w ++ rest_from 32 o ≡ word_text v ++ rest_from 32 p → (w ≡ v) × (o ≡ p)
word_one (Bare xs) (Bare ys) o p h k e = let s = cut_one 32 xs ys o p h.0 k.0 e in (ap (λ (zs : List ℕ). Bare zs) s.0, s.1)
word_one (Bare xs) (Quoted m) o p h k e = absurd (not_quoted 34 xs (m ++ rest_from 34 (Some (rest_from 32 p))) o refl (unquoted xs h.1) (e ∙ quoted_text m p))
word_one (Quoted n) (Bare ys) o p h k e = absurd (not_quoted 34 ys (n ++ rest_from 34 (Some (rest_from 32 o))) p refl (unquoted ys k.1) (sym e ∙ quoted_text n o))
word_one (Quoted n) (Quoted m) o p h k e =
    let whole : 34 ∷ (n ++ rest_from 34 (Some (rest_from 32 o))) ≡ 34 ∷ (m ++ rest_from 34 (Some (rest_from 32 p))) = sym (quoted_text n o) ∙ e ∙ quoted_text m p in
    let behind : n ++ rest_from 34 (Some (rest_from 32 o)) ≡ m ++ rest_from 34 (Some (rest_from 32 p)) = cc in
    let s = cut_one 34 n m (Some (rest_from 32 o)) (Some (rest_from 32 p)) h k behind in
    let names : n ≡ m = s.0 in
    let both : Some (rest_from 32 o) ≡ Some (rest_from 32 p) = s.1 in
    let rests : rest_from 32 o ≡ rest_from 32 p = cc in
    (ap (λ (zs : List ℕ). Quoted zs) names, rest_from_one 32 o p rests)

text_one : (xs ys : List ℕ) → Some xs ≡ Some ys → xs ≡ ys
text_one xs ys e = cc

none_text : (xs : List ℕ) → None ≡ Some xs → ⊥
none_text xs e = cc

texts_one : (ws vs : List Word) → AllByRecursion FitsWord ws → AllByRecursion FitsWord vs → rest_text ws ≡ rest_text vs → ws ≡ vs
texts_one [] [] h k e = refl
texts_one [] (v ∷ vs) h k e = absurd (none_text (line_text (v ∷ vs)) e)
texts_one (w ∷ ws) [] h k e = absurd (none_text (line_text (w ∷ ws)) (sym e))
texts_one (w ∷ ws) (v ∷ vs) h k e =
    let s = word_one w v (rest_text ws) (rest_text vs) h.0 k.0 (sym (line_with_rest w ws) ∙ text_one (line_text (w ∷ ws)) (line_text (v ∷ vs)) e ∙ line_with_rest v vs) in
    let heads : w ≡ v = s.0 in
    let tails : ws ≡ vs = texts_one ws vs h.1 k.1 s.1 in
    cc

-- a line is made of one list of words
pub words_one : (ws vs : List Word) (line : List ℕ) → AreWords ws line → AreWords vs line → ws ≡ vs
words_one [] vs line h k = absurd h
words_one (w ∷ ws) [] line h k = absurd k
words_one (w ∷ ws) (v ∷ vs) line h k = texts_one (w ∷ ws) (v ∷ vs) (h.0, h.1) (k.0, k.1) (ap (λ (xs : List ℕ). Some xs) (sym h.2 ∙ k.2))

-- so many words were cut off the line, and this is left
pub record IsSplit (words : List Word) (rest line : List ℕ) : Type 0 where
  pub fits : AllByRecursion FitsWord words
  pub forth : (v : Word) (vs : List Word) → rest ≡ line_text (v ∷ vs) → line ≡ line_text (words ++ v ∷ vs)
  pub back : (ws : List Word) → AreWords ws line → (vs : List Word) × AreWords vs rest

fits_push : (ws : List Word) (w : Word) → AllByRecursion FitsWord ws → FitsWord w → AllByRecursion FitsWord (ws ++ w ∷ [])
fits_push [] w h k = (k, tt)
fits_push (v ∷ vs) w h k = (h.0, fits_push vs w h.1 k)

behind_first : (w : Word) (vs : List Word) (rest more : List ℕ) → FitsWord w → rest ≡ word_text w ++ rest_from 32 (Some more) → AreWords vs rest → (us : List Word) × AreWords us more
behind_first w [] rest more h e k = absurd k
behind_first w (v ∷ []) rest more h e k =
    let s = word_one w v (Some more) None h k.0 (sym e ∙ k.2 ∙ line_with_rest v []) in
    let q : Some more ≡ None = s.1 in
    absurd (cc)
behind_first w (v ∷ u ∷ us) rest more h e k =
    let s = word_one w v (Some more) (Some (line_text (u ∷ us))) h k.0 (sym e ∙ k.2 ∙ line_with_rest v (u ∷ us)) in
    let q : Some more ≡ Some (line_text (u ∷ us)) = s.1 in
    let r : more ≡ line_text (u ∷ us) = cc in
    (u ∷ us, (k.1.0, k.1.1, r))

pub split_more : (words : List Word) (w : Word) (rest more line : List ℕ) → IsSplit words rest line → FitsWord w → rest ≡ word_text w ++ rest_from 32 (Some more) → IsSplit (words ++ w ∷ []) more line
split_more words w rest more line h k e = record {
  fits = fits_push words w h.fits k;
  forth = λ v vs q. h.forth w (v ∷ vs) (e ∙ ap (λ (xs : List ℕ). word_text w ++ 32 ∷ xs) q) ∙ sym (ap line_text (append_assoc words (w ∷ []) (v ∷ vs)));
  back = λ ws a. let b = h.back ws a in behind_first w b.0 rest more k e b.1;
}

pub no_split : (words ws : List Word) (rest line : List ℕ) → IsSplit words rest line → ((w : Word) (more : Option (List ℕ)) → FitsWord w → rest ≡ word_text w ++ rest_from 32 more → ⊥) → AreWords ws line → ⊥
no_split words ws rest line h none a = let b = h.back ws a in none_first b.0 b.1
  where
    none_first : (vs : List Word) → AreWords vs rest → ⊥
    none_first [] k = k
    none_first (v ∷ vs) k = none v (rest_text vs) k.0 (k.2 ∙ line_with_rest v vs)

-- ## What the readers owe

pub next_lines : (bytes front : List ℕ) (o : Option (List ℕ)) → bytes ≡ front ++ rest_from 10 o → Lacks 10 front → lines_of bytes ≡ front ∷ lines_behind o
next_lines bytes front o e h = ap lines_of e ∙ lines_cut front o h

pub nothing_behind : (xs : List ℕ) → (length xs == 0) ≡ true → lines_behind (Some xs) ≡ []
nothing_behind [] e = refl
nothing_behind (x ∷ xs) e = absurd (grind (arith, nat_tests))

pub more_behind : (xs : List ℕ) → (length xs == 0) ≡ false → lines_behind (Some xs) ≡ lines_of xs
more_behind [] h = absurd (grind (arith, nat_tests))
more_behind (x ∷ xs) h = refl

-- behind an opening quote stand a name, its closing quote, and what stands behind the word
pub not_a_word : (bytes name : List ℕ) (rest : Option (List ℕ)) → bytes ≡ name ++ rest_from 34 rest → Lacks 34 name → ((xs : List ℕ) (o : Option (List ℕ)) → rest ≡ Some xs → xs ≡ rest_from 32 o → ⊥) → (w : Word) (more : Option (List ℕ)) → FitsWord w → 34 ∷ bytes ≡ word_text w ++ rest_from 32 more → ⊥
not_a_word bytes name rest e h none (Bare ys) more k q = not_quoted 34 ys bytes more refl (unquoted ys k.1) (sym q)
not_a_word bytes name rest e h none (Quoted m) more k q =
    let whole : 34 ∷ bytes ≡ 34 ∷ (m ++ rest_from 34 (Some (rest_from 32 more))) = q ∙ quoted_text m more in
    let s = cut_one 34 name m rest (Some (rest_from 32 more)) h k (sym e ∙ tail_same 34 bytes (m ++ rest_from 34 (Some (rest_from 32 more))) whole) in
    none (rest_from 32 more) more s.1 refl
  where
    tail_same : (x : ℕ) (xs ys : List ℕ) → x ∷ xs ≡ x ∷ ys → xs ≡ ys
    tail_same x xs ys e = cc
