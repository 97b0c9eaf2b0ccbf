-- What a joiner answers to the pieces of messages.
use Rattle.std.proofs.Common.{◌≡◌, ℕ, zero, suc, ◌+◌, ◌-◌, ◌*◌, ◌^◌, ◌<◌, ◌≤◌, List, [], ◌∷◌, ◌++◌, length, take, drop, replicate, flat_map, Option, Some, None, Result, Ok, Err, refl, sym, ap, ◌∙◌, append_assoc, eq-eqb, subst, arith}
use Rattle.std.specs.List.{AllByRecursion}
use Rattle.std.specs.Prelude.{IsOk}
use Rattle.std.specs.Int.{w64, from_be_bytes, to_be_bytes}
use Rattle.std.proofs.lemmas.Bool.{lt-ltb, le-ltb}
use Rattle.std.proofs.lemmas.List.{take_all, take_at, drop_at, take-append-le, take-append-drop, length-append, length-take, length-drop, append-nil}
use Rattle.std.proofs.lemmas.List.Concat.{flat_map-cons}
use Rattle.std.proofs.lemmas.Nat.{from_be_bytes-to_be_bytes_8}
use Rattle.fs_frag.specs.declared.error.FragError.{FragError}
use Rattle.fs_frag.specs.Cut.{framed, pieces, piece_count, cut_of}
use Rattle.fs_frag.specs.Joined.{answer_of, held_after, answers, held_by, answers_for, messages_of}

abbrev pub Answer : Type 0
Answer = Result (Option (List ℕ)) FragError

abbrev nothing : Answer
nothing = Ok None

-- the length that the first eight bytes announce
abbrev announced : List ℕ → ℕ
announced bytes = from_be_bytes w64 (take 8 bytes)

pub goes_on : (bytes : List ℕ) (want : ℕ) → 8 ≤ length bytes → announced bytes ≡ want → length bytes - 8 < want → answer_of bytes ≡ Ok None
goes_on bytes want h e lt = rw (le-ltb (length bytes) 8 h, length-drop, e, lt-ltb (length bytes - 8) want lt) refl

is_whole : (bytes : List ℕ) → 8 ≤ length bytes → announced bytes ≡ length bytes - 8 → answer_of bytes ≡ Ok (Some (drop 8 bytes))
is_whole bytes h e = rw (le-ltb (length bytes) 8 h, length-drop, e, le-ltb (length bytes - 8) (length bytes - 8) (omega arith), eq-eqb (length bytes - 8) (length bytes - 8) refl) refl

pub length-framed : (m : List ℕ) → length (framed m) ≡ 8 + length m
length-framed m = length-append (to_be_bytes w64 (length m)) m

-- what a prefix of a framed message announces
pub announced-prefix : (held rest m : List ℕ) → 8 ≤ length held → held ++ rest ≡ framed m → length m < 2 ^ 64 → announced held ≡ length m
announced-prefix held rest m h e lt =
    let prefix : take 8 held ≡ to_be_bytes w64 (length m) = sym (take-append-le 8 held rest h) ∙ ap (λ (x : List ℕ). take 8 x) e ∙ take_at (to_be_bytes w64 (length m)) m 8 refl in
    ap (λ (x : List ℕ). from_be_bytes w64 x) prefix ∙ from_be_bytes-to_be_bytes_8 (length m) lt

pub answer-framed : (m : List ℕ) → length m < 2 ^ 64 → answer_of (framed m) ≡ Ok (Some m)
answer-framed m lt =
    let len = length-framed m in
    let nothing_more : framed m ++ [] ≡ framed m = search append-nil in
    is_whole (framed m) (omega arith) (announced-prefix (framed m) [] m (omega arith) nothing_more lt ∙ omega arith)
    ∙ ap (λ (x : List ℕ). Ok (Some x)) (drop_at (to_be_bytes w64 (length m)) m 8 refl)

answers-cons : (held s : List ℕ) (ss : List (List ℕ)) (a : Answer) → answer_of (held ++ s) ≡ a → answers held (s ∷ ss) ≡ a ∷ answers (held_after a (held ++ s)) ss
answers-cons held s ss a e = ap (λ (x : Answer). x ∷ answers (held_after x (held ++ s)) ss) e

-- the pieces of what is left of a message: nothing at each but the last
joins : (n : ℕ) (held rest m : List ℕ) (more : List (List ℕ)) → held ++ rest ≡ framed m → length m < 2 ^ 64 → 1024 * n < length rest → length rest ≤ 1024 * (n + 1)
    → answers held (pieces (suc n) rest ++ more) ≡ replicate n (Ok None) ++ Ok (Some m) ∷ answers [] more
joins zero held rest m more e lt low high =
    ap (λ (x : List ℕ). answers held (x ∷ more)) (take_all 1024 rest (omega arith))
    ∙ answers-cons held rest more (Ok (Some m)) (ap answer_of e ∙ answer-framed m lt)
joins (suc n) held rest m more e lt low high =
    let first = take 1024 rest in
    let whole : (held ++ first) ++ drop 1024 rest ≡ framed m = append_assoc held first (drop 1024 rest) ∙ ap (λ (x : List ℕ). held ++ x) (take-append-drop 1024 rest) ∙ e in
    let len : length (held ++ first) ≡ length held + 1024 = omega (arith, length-append held first, length-take 1024 rest) in
    let all : length (held ++ first) + length (drop 1024 rest) ≡ 8 + length m = sym (length-append (held ++ first) (drop 1024 rest)) ∙ ap (λ (x : List ℕ). length x) whole ∙ length-framed m in
    let left : length (drop 1024 rest) ≡ length rest - 1024 = length-drop 1024 rest in
    answers-cons held first (pieces (suc n) (drop 1024 rest) ++ more) (Ok None)
    (goes_on (held ++ first) (length m) (omega arith) (announced-prefix (held ++ first) (drop 1024 rest) m (omega arith) whole lt) (omega arith))
    ∙ ap (λ (x : List Answer). Ok None ∷ x) (joins n (held ++ first) (drop 1024 rest) m more whole lt (omega arith) (omega arith))

pub length-pieces : (n : ℕ) (bytes : List ℕ) → length (pieces n bytes) ≡ n
length-pieces zero bytes = refl
length-pieces (suc n) bytes = ap suc (length-pieces n (drop 1024 bytes))

-- how many segments a message has
pub length-cut : (m : List ℕ) → length (cut_of m) ≡ piece_count (8 + length m)
length-cut m = length-pieces (piece_count (length (framed m))) (framed m) ∙ ap piece_count (length-framed m)

pub joins_message : (m : List ℕ) (more : List (List ℕ)) → length m < 2 ^ 64 → answers [] (cut_of m ++ more) ≡ answers_for m ++ answers [] more
joins_message m more lt =
    let len = length-framed m in
    let n = piece_count (length (framed m)) - 1 in
    let count : piece_count (length (framed m)) ≡ suc n = omega arith in
    let last : length (cut_of m) - 1 ≡ n = ap (λ (k : ℕ). k - 1) (length-pieces (piece_count (length (framed m))) (framed m)) in
    let joined : answers [] (pieces (suc n) (framed m) ++ more) ≡ replicate n nothing ++ Ok (Some m) ∷ answers [] more = joins n [] (framed m) m more refl lt (omega arith) (omega arith) in
    ap (λ (k : ℕ). answers [] (pieces k (framed m) ++ more)) count ∙ joined
    ∙ sym (append_assoc (replicate n nothing) (Ok (Some m) ∷ []) (answers [] more))
    ∙ ap (λ (k : ℕ). (replicate k nothing ++ Ok (Some m) ∷ []) ++ answers [] more) (sym last)

pub joins_all : (messages : List (List ℕ)) → AllByRecursion (λ m. length m < 2 ^ 64) messages → answers [] (flat_map cut_of messages) ≡ flat_map answers_for messages
joins_all [] fits = refl
joins_all (m ∷ ms) fits =
    ap (λ (x : List (List ℕ)). answers [] x) (flat_map-cons cut_of m ms) ∙ joins_message m (flat_map cut_of ms) fits.0
    ∙ ap (λ (x : List Answer). answers_for m ++ x) (joins_all ms fits.1) ∙ sym (flat_map-cons answers_for m ms)

messages-of_nothing : (n : ℕ) (rest : List Answer) → messages_of (replicate n (Ok None) ++ rest) ≡ messages_of rest
messages-of_nothing zero rest = refl
messages-of_nothing (suc n) rest = messages-of_nothing n rest

pub messages-of_answers : (messages : List (List ℕ)) → messages_of (flat_map answers_for messages) ≡ messages
messages-of_answers [] = refl
messages-of_answers (m ∷ ms) =
    let n = length (cut_of m) - 1 in
    ap messages_of (flat_map-cons answers_for m ms ∙ append_assoc (replicate n nothing) (Ok (Some m) ∷ []) (flat_map answers_for ms))
    ∙ messages-of_nothing n (Ok (Some m) ∷ flat_map answers_for ms) ∙ ap (λ (x : List (List ℕ)). m ∷ x) (messages-of_answers ms)

pub whole_and_once : (messages : List (List ℕ)) → AllByRecursion (λ m. length m < 2 ^ 64) messages → messages_of (answers [] (flat_map cut_of messages)) ≡ messages
whole_and_once messages fits = ap messages_of (joins_all messages fits) ∙ messages-of_answers messages

-- ---- a beginning of the segments

pub answers-append : (held : List ℕ) (ss more : List (List ℕ)) → answers held (ss ++ more) ≡ answers held ss ++ answers (held_by held ss) more
answers-append held [] more = refl
answers-append held (s ∷ ss) more = ap (λ (x : List Answer). answer_of (held ++ s) ∷ x) (answers-append (held_after (answer_of (held ++ s)) (held ++ s)) ss more)

pub messages_of-append : (xs ys : List Answer) → messages_of (xs ++ ys) ≡ messages_of xs ++ messages_of ys
messages_of-append [] ys = refl
messages_of-append (Ok None ∷ xs) ys = messages_of-append xs ys
messages_of-append (Ok (Some m) ∷ xs) ys = ap (λ (x : List (List ℕ)). m ∷ x) (messages_of-append xs ys)
messages_of-append (Err e ∷ xs) ys = messages_of-append xs ys

-- what was joined so far begins the messages
pub joined_so_far : (messages segments rest : List (List ℕ)) → AllByRecursion (λ m. length m < 2 ^ 64) messages → segments ++ rest ≡ flat_map cut_of messages
    → (others : List (List ℕ)) × (messages_of (answers [] segments) ++ others ≡ messages)
joined_so_far messages segments rest fits e =
    (messages_of (answers (held_by [] segments) rest), sym (messages_of-append (answers [] segments) (answers (held_by [] segments) rest)) ∙ ap messages_of (sym (answers-append [] segments rest)) ∙ ap (λ (x : List (List ℕ)). messages_of (answers [] x)) e ∙ whole_and_once messages fits)

pub all_in_prefix : (xs ys : List Answer) → AllByRecursion IsOk (xs ++ ys) → AllByRecursion IsOk xs
all_in_prefix [] ys h = tt
all_in_prefix (x ∷ xs) ys h = (h.0, all_in_prefix xs ys h.1)

all_ok-for : (n : ℕ) (m : List ℕ) (rest : List Answer) → AllByRecursion IsOk rest → AllByRecursion IsOk (replicate n nothing ++ Ok (Some m) ∷ rest)
all_ok-for zero m rest h = (refl, h)
all_ok-for (suc n) m rest h = (refl, all_ok-for n m rest h)

pub all_ok : (messages : List (List ℕ)) → AllByRecursion IsOk (flat_map answers_for messages)
all_ok [] = tt
all_ok (m ∷ ms) =
    let n = length (cut_of m) - 1 in
    let e : flat_map answers_for (m ∷ ms) ≡ replicate n nothing ++ Ok (Some m) ∷ flat_map answers_for ms = flat_map-cons answers_for m ms ∙ append_assoc (replicate n nothing) (Ok (Some m) ∷ []) (flat_map answers_for ms) in
    let P : List Answer → Type 0 = λ x. AllByRecursion IsOk x in
    subst P (sym e) (all_ok-for n m (flat_map answers_for ms) (all_ok ms))

-- no segment of them is too much
pub never_over : (messages segments rest : List (List ℕ)) → AllByRecursion (λ m. length m < 2 ^ 64) messages → segments ++ rest ≡ flat_map cut_of messages → AllByRecursion IsOk (answers [] segments)
never_over messages segments rest fits e =
    let whole : answers [] segments ++ answers (held_by [] segments) rest ≡ flat_map answers_for messages = sym (answers-append [] segments rest) ∙ ap (λ (x : List (List ℕ)). answers [] x) e ∙ joins_all messages fits in
    let P : List Answer → Type 0 = λ x. AllByRecursion IsOk x in
    all_in_prefix (answers [] segments) (answers (held_by [] segments) rest) (subst P (sym whole) (all_ok messages))
