-- What is still to come at a joiner, from one segment or message to the next.
use Rattle.std.proofs.Common.{◌≡◌, ℕ, zero, suc, ◌+◌, ◌-◌, ◌*◌, ◌^◌, ◌<◌, ◌≤◌, List, [], ◌∷◌, ◌++◌, length, map, take, drop, Some, None, Ok, Err, refl, sym, ap, ◌∙◌, append_assoc, subst, arith}
use Rattle.std.specs.List.{AllByRecursion}
use Rattle.std.specs.Prelude.{IsOk}
use Rattle.std.proofs.lemmas.List.{take_all, take-append-drop, length-append, length-take, length-drop, append-nil}
use Rattle.fs_frag.specs.declared.joined.Joined.{Joined}
use Rattle.fs_frag.specs.declared.joined.Joined.TheVariants.{Whole}
use Rattle.fs_frag.specs.Coming.{IsComing, HaveCome}
use Rattle.fs_frag.specs.Cut.{framed, pieces, piece_count, cut_of}
use Rattle.fs_frag.specs.Joined.{answer_of, held_after, answers, held_by, joined_of, answers_for, messages_of}
use Rattle.fs_frag.proofs.Joins.{Answer, announced-prefix, answer-framed, goes_on, length-framed, joins_message, answers-append, messages_of-append, messages-of_answers, all_in_prefix, all_ok}

held_by-append : (held : List ℕ) (ss more : List (List ℕ)) → held_by held (ss ++ more) ≡ held_by (held_by held ss) more
held_by-append held [] more = refl
held_by-append held (s ∷ ss) more = held_by-append (held_after (answer_of (held ++ s)) (held ++ s)) ss more

held_by-cons : (held s : List ℕ) (ss : List (List ℕ)) (a : Answer) → answer_of (held ++ s) ≡ a → held_by held (s ∷ ss) ≡ held_by (held_after a (held ++ s)) ss
held_by-cons held s ss a e = ap (λ (x : Answer). held_by (held_after x (held ++ s)) ss) e

-- after the last piece of a message nothing is held
held_whole : (n : ℕ) (held rest m : List ℕ) → held ++ rest ≡ framed m → length m < 2 ^ 64 → 1024 * n < length rest → length rest ≤ 1024 * (n + 1) → held_by held (pieces (suc n) rest) ≡ []
held_whole zero held rest m e lt low high =
    ap (λ (x : List ℕ). held_by held (x ∷ [])) (take_all 1024 rest (omega arith))
    ∙ held_by-cons held rest [] (Ok (Some m)) (ap answer_of e ∙ answer-framed m lt)
held_whole (suc n) held rest m e lt low high =
    let first = take 1024 rest in
    let whole : (held ++ first) ++ drop 1024 rest ≡ framed m = append_assoc held first (drop 1024 rest) ∙ ap (λ (x : List ℕ). held ++ x) (take-append-drop 1024 rest) ∙ e in
    let len : length (held ++ first) ≡ length held + 1024 = omega (arith, length-append held first, length-take 1024 rest) in
    let all : length (held ++ first) + length (drop 1024 rest) ≡ 8 + length m = sym (length-append (held ++ first) (drop 1024 rest)) ∙ ap (λ (x : List ℕ). length x) whole ∙ length-framed m in
    let left : length (drop 1024 rest) ≡ length rest - 1024 = length-drop 1024 rest in
    held_by-cons held first (pieces (suc n) (drop 1024 rest)) (Ok None)
    (goes_on (held ++ first) (length m) (omega arith) (announced-prefix (held ++ first) (drop 1024 rest) m (omega arith) whole lt) (omega arith))
    ∙ held_whole n (held ++ first) (drop 1024 rest) m whole lt (omega arith) (omega arith)

held_by-cut : (m : List ℕ) → length m < 2 ^ 64 → held_by [] (cut_of m) ≡ []
held_by-cut m lt =
    let len = length-framed m in
    let n = piece_count (length (framed m)) - 1 in
    let count : piece_count (length (framed m)) ≡ suc n = omega arith in
    ap (λ (k : ℕ). held_by [] (pieces k (framed m))) count ∙ held_whole n [] (framed m) m refl lt (omega arith) (omega arith)

answers-cut : (m : List ℕ) → length m < 2 ^ 64 → answers [] (cut_of m) ≡ answers_for m
answers-cut m lt =
    ap (λ (x : List (List ℕ)). answers [] x) (sym (append-nil (cut_of m))) ∙ joins_message m [] lt ∙ append-nil (answers_for m)

all_both : (xs ys : List Answer) → AllByRecursion IsOk xs → AllByRecursion IsOk ys → AllByRecursion IsOk (xs ++ ys)
all_both [] ys h k = k
all_both (x ∷ xs) ys h k = (h.0, all_both xs ys h.1 k)

all_after : (xs ys : List Answer) → AllByRecursion IsOk (xs ++ ys) → AllByRecursion IsOk ys
all_after [] ys h = h
all_after (x ∷ xs) ys h = all_after xs ys h.1

-- nothing is to come at a new joiner
pub coming_none : IsComing [] [] []
coming_none = record { given = refl; fits = tt; ends = refl }

-- a message is cut behind what is to come
pub coming_more : (held : List ℕ) (ss ms : List (List ℕ)) (m : List ℕ) → length m < 2 ^ 64 → IsComing held ss ms → IsComing held (ss ++ cut_of m) (ms ++ m ∷ [])
coming_more held ss ms m lt h =
    let more : answers held (ss ++ cut_of m) ≡ answers held ss ++ answers_for m =
    answers-append held ss (cut_of m) ∙ ap (λ (x : List ℕ). answers held ss ++ answers x (cut_of m)) h.ends ∙ ap (λ (x : List Answer). answers held ss ++ x) (answers-cut m lt) in
    let P : List Answer → Type 0 = λ x. AllByRecursion IsOk x in
    record {
      given = ap messages_of more ∙ messages_of-append (answers held ss) (answers_for m) ∙ ap (λ (x : List (List ℕ)). x ++ messages_of (answers_for m)) h.given ∙ ap (λ (x : List (List ℕ)). ms ++ x) (messages_of-one m);
      fits = subst P (sym more) (all_both (answers held ss) (answers_for m) h.fits (ok_one m));
      ends = held_by-append held ss (cut_of m) ∙ ap (λ (x : List ℕ). held_by x (cut_of m)) h.ends ∙ held_by-cut m lt;
    }
  where
    messages_of-one : (m : List ℕ) → messages_of (answers_for m) ≡ m ∷ []
    messages_of-one m = ap messages_of (sym (append-nil (answers_for m))) ∙ messages-of_answers (m ∷ [])

    ok_one : (m : List ℕ) → AllByRecursion IsOk (answers_for m)
    ok_one m = let P : List Answer → Type 0 = λ x. AllByRecursion IsOk x in subst P (append-nil (answers_for m)) (all_ok (m ∷ []))

-- what comes of answers that are all Ok: their messages
joined_of-ok : (xs : List Answer) → AllByRecursion IsOk xs → joined_of xs ≡ map Whole (messages_of xs)
joined_of-ok [] h = refl
joined_of-ok (Ok None ∷ xs) h = joined_of-ok xs h.1
joined_of-ok (Ok (Some m) ∷ xs) h = ap (λ (x : List Joined). Whole m ∷ x) (joined_of-ok xs h.1)
joined_of-ok (Err e ∷ xs) h = absurd (cc h.0)

-- some segments come
pub coming_now : (held : List ℕ) (now later ms : List (List ℕ)) → IsComing held (now ++ later) ms → HaveCome held now later ms
coming_now held now later ms h =
    let both = answers-append held now later in
    let P : List Answer → Type 0 = λ x. AllByRecursion IsOk x in
    let fits = subst P both h.fits in
    let after = answers (held_by held now) later in
    record {
      rest = messages_of after;
      messages_now = sym (messages_of-append (answers held now) after) ∙ ap messages_of (sym both) ∙ h.given;
      joined = joined_of-ok (answers held now) (all_in_prefix (answers held now) after fits);
      coming = record {
        given = refl;
        fits = all_after (answers held now) after fits;
        ends = sym (held_by-append held now later) ∙ h.ends;
      };
    }
