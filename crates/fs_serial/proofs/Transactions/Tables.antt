-- The tables of transactions that a server leads, and of parts that wait there, as words of transactions change them.
use Rattle.std.proofs.Common.{◌≡◌, ◌⊎◌, ℕ, Bool, true, false, not, List, [], ◌∷◌, ◌++◌, refl, sym, ap, ◌∙◌, subst, cond, inl, inr, map, filter, append-nil}
use Rattle.std.specs.Prelude.{Some, None, is_some, slice_get}
use Rattle.std.specs.Option.{option_or}
use Rattle.std.specs.List.{find, flat_map}
use Rattle.std.proofs.lemmas.Bool.{not-true}
use Rattle.std.proofs.lemmas.List.Elements.{filter-append}
use Rattle.std.proofs.lemmas.List.Folds.{find-append}
use Rattle.std.proofs.lemmas.Grind.{flat_map-append}
use Rattle.fs_ident.specs.In.{In}
use Rattle.fs_ident.specs.declared.actor.TxnNo.{TxnNo}
use Rattle.fs_ident.proofs.Standing.{In-append, In-behind, In-filter, In-front, In-last, In-map, In-mapped}
use Rattle.fs_field.specs.Table.{same_txn}
use Rattle.fs_field.specs.declared.row.Row.{Row}
use Rattle.fs_field.specs.declared.used.Part.{Part}
use Rattle.fs_parcel.proofs.Both.{passing}
use Rattle.fs_server.proofs.Parts.{find_part}
use Rattle.fs_txn.specs.Leading.{agreed_part, ending_of, keeps_till_done, kept_by, leading_of, own_parts, said_by, with_ending, with_leading, without_ending, without_leading}
use Rattle.fs_txn.specs.Locks.{Agreed, IsKept, IsOf, Kept, LocksHold, without_kept, without_txn}
use Rattle.fs_txn.specs.Ready.{agreed_of, is_part, without_prepared}
use Rattle.fs_txn.specs.Stages.{Key, same_key}
use Rattle.fs_txn.specs.declared.leading.Ending.{Ending}
use Rattle.fs_txn.specs.declared.leading.Leading.{Leading}
use Rattle.fs_txn.specs.declared.ready.Ready.{Ready}
use Rattle.fs_txn.proofs.Keys.{key_is, key_itself, kept_in, txn_is, txn_itself}

-- ## Lists

-- those that pass no other test stay found without that test's
pub left_found : {X : Type 0} (test gone : X → Bool) → ((x : X) → test x ≡ true → gone x ≡ false) → (xs : List X)
    → find test (filter (λ x. not (gone x)) xs) ≡ find test xs
left_found test gone h xs = sym (find_part test (λ x. not (gone x)) (λ x t. ap not (h x t)) xs)

pub gone_found : {X : Type 0} (test : X → Bool) (xs : List X) → find test (filter (λ x. not (test x)) xs) ≡ None
gone_found test [] = refl
gone_found test (x ∷ xs) = at (test x) refl (gone_found test xs)
  where
    at : (b : Bool) → test x ≡ b → find test (filter (λ y. not (test y)) xs) ≡ None
        → find test (cond (not b) (x ∷ filter (λ y. not (test y)) xs) (filter (λ y. not (test y)) xs)) ≡ None
    at true t rest = rest
    at false t rest = ap (λ b. cond b (Some x) (find test (filter (λ y. not (test y)) xs))) t ∙ rest

pub found_front : {X : Type 0} (test : X → Bool) (xs ys : List X) (x : X) → find test xs ≡ Some x → find test (xs ++ ys) ≡ Some x
found_front test xs ys x e = find-append test xs ys ∙ ap (λ o. option_or o (find test ys)) e

pub found_behind : {X : Type 0} (test : X → Bool) (xs ys : List X) → find test xs ≡ None → find test (xs ++ ys) ≡ find test ys
found_behind test xs ys e = find-append test xs ys ∙ ap (λ o. option_or o (find test ys)) e

pub none_behind : {X : Type 0} (test : X → Bool) (xs ys : List X) → find test ys ≡ None → find test (xs ++ ys) ≡ find test xs
none_behind test xs ys e = find-append test xs ys ∙ ap (option_or (find test xs)) e
    ∙ elim (find test xs) as (λ o. option_or o None ≡ o) [ None ↦ refl | Some x ↦ refl ]

pub all_stay : {X : Type 0} (test : X → Bool) (xs : List X) → ((x : X) → In x xs → test x ≡ true) → filter test xs ≡ xs
all_stay test [] h = refl
all_stay test (x ∷ xs) h =
    ap (λ b. cond b (x ∷ filter test xs) (filter test xs)) (h x (inl refl)) ∙ ap (λ ys. x ∷ ys) (all_stay test xs (λ y i. h y (inr i)))

pub none_stay : {X : Type 0} (test : X → Bool) (xs : List X) → ((x : X) → In x xs → test x ≡ false) → filter test xs ≡ []
none_stay test [] h = refl
none_stay test (x ∷ xs) h = ap (λ b. cond b (x ∷ filter test xs) (filter test xs)) (h x (inl refl)) ∙ none_stay test xs (λ y i. h y (inr i))

-- in the lists of all items
pub In_all : {X Y : Type 0} (f : X → List Y) (y : Y) (x : X) (xs : List X) → In x xs → In y (f x) → In y (flat_map f xs)
In_all f y x [] i j = absurd i
In_all f y x (z ∷ zs) (inl e) j = In-front y (f z) (flat_map f zs) (subst (λ w. In y (f w)) e j)
In_all f y x (z ∷ zs) (inr i) j = In-behind y (f z) (flat_map f zs) (In_all f y x zs i j)

pub In_some : {X Y : Type 0} (f : X → List Y) (y : Y) (xs : List X) → In y (flat_map f xs) → (x : X) × (In x xs × In y (f x))
In_some f y [] i = absurd i
In_some {X = X} f y (x ∷ xs) i = elim (In-append y (f x) (flat_map f xs) i) as (λ _. (z : X) × (In z (x ∷ xs) × In y (f z))) [
  | inl j ↦ (x, (inl refl, j))
  | inr j ↦ let q = In_some f y xs j in (q.0, (inr q.1.0, q.1.1))
]

-- ## Numbers

off_by : (b : Bool) → (b ≡ true → true ≡ false) → b ≡ false
off_by true h = h refl
off_by false h = refl

pub txn_apart : (a b : TxnNo) → same_txn a b ≡ false → same_txn b a ≡ false
txn_apart a b h = off_by (same_txn b a) (λ t. sym (txn_itself a) ∙ ap (same_txn a) (sym (txn_is b a t)) ∙ h)

-- what has the number of one transaction has not that of another
pub of_other : (a other txn : TxnNo) → same_txn other txn ≡ false → same_txn a other ≡ true → same_txn a txn ≡ false
of_other a other txn h e = ap (λ t. same_txn t txn) (txn_is a other e) ∙ h

pub key_apart : (a b : Key) → same_key a b ≡ false → same_key b a ≡ false
key_apart a b h = off_by (same_key b a) (λ t. sym (key_itself a) ∙ ap (same_key a) (sym (key_is b a t)) ∙ h)

pub of_other_part : (a other key : Key) → same_key other key ≡ false → same_key a other ≡ true → same_key a key ≡ false
of_other_part a other key h e = ap (λ t. same_key t key) (key_is a other e) ∙ h

-- ## Transactions of which votes are awaited

pub leading_gone : (txn : TxnNo) (xs : List Leading) → leading_of txn (without_leading txn xs) ≡ None
leading_gone txn xs = gone_found (λ (l : Leading). same_txn l.leader.txn txn) xs

pub leading_left : (other txn : TxnNo) (xs : List Leading) → same_txn other txn ≡ false
    → leading_of other (without_leading txn xs) ≡ leading_of other xs
leading_left other txn xs h =
    left_found (λ (l : Leading). same_txn l.leader.txn other) (λ (l : Leading). same_txn l.leader.txn txn)
    (λ l. of_other l.leader.txn other txn h) xs

alone_found : (l : Leading) → leading_of l.leader.txn (l ∷ []) ≡ Some l
alone_found l = ap (λ b. cond b (Some l) None) (txn_itself l.leader.txn)

pub leading_set : (l : Leading) (xs : List Leading) → leading_of l.leader.txn (with_leading l xs) ≡ Some l
leading_set l xs =
    found_behind (λ (x : Leading). same_txn x.leader.txn l.leader.txn) (without_leading l.leader.txn xs) (l ∷ [])
    (leading_gone l.leader.txn xs) ∙ alone_found l

pub leading_other : (l : Leading) (other : TxnNo) (xs : List Leading) → same_txn other l.leader.txn ≡ false
    → leading_of other (with_leading l xs) ≡ leading_of other xs
leading_other l other xs h =
    none_behind (λ (x : Leading). same_txn x.leader.txn other) (without_leading l.leader.txn xs) (l ∷ [])
    (ap (λ b. cond b (Some l) None) (txn_apart other l.leader.txn h))
    ∙ leading_left other l.leader.txn xs h

pub in_without_leading : (txn : TxnNo) (xs : List Leading) (z : Leading) → In z (without_leading txn xs)
    → In z xs × (same_txn z.leader.txn txn ≡ false)
in_without_leading txn xs z i = (
  In-filter (λ (l : Leading). not (same_txn l.leader.txn txn)) z xs i,
  not-true (same_txn z.leader.txn txn) (passing (λ (l : Leading). not (same_txn l.leader.txn txn)) xs z i),
)

pub in_with_leading : (l : Leading) (xs : List Leading) (z : Leading) → In z (with_leading l xs)
    → (z ≡ l) ⊎ (In z xs × (same_txn z.leader.txn l.leader.txn ≡ false))
in_with_leading l xs z i =
    elim (In-append z (without_leading l.leader.txn xs) (l ∷ []) i)
    as (λ _. (z ≡ l) ⊎ (In z xs × (same_txn z.leader.txn l.leader.txn ≡ false))) [
      | inl j ↦ inr (in_without_leading l.leader.txn xs z j)
      | inr j ↦ elim j as (λ _. (z ≡ l) ⊎ (In z xs × (same_txn z.leader.txn l.leader.txn ≡ false))) [ inl e ↦ inl e | inr k ↦ absurd k ]
    ]

pub leading_stays : (txn : TxnNo) (xs : List Leading) (z : Leading) → In z xs → same_txn z.leader.txn txn ≡ false
    → In z (without_leading txn xs)
leading_stays txn xs z i h = kept_in (λ (l : Leading). not (same_txn l.leader.txn txn)) z xs i (ap not h)

pub leading_kept : (l : Leading) (xs : List Leading) (z : Leading) → In z xs → same_txn z.leader.txn l.leader.txn ≡ false
    → In z (with_leading l xs)
leading_kept l xs z i h = In-front z (without_leading l.leader.txn xs) (l ∷ []) (leading_stays l.leader.txn xs z i h)

pub leading_there : (l : Leading) (xs : List Leading) → In l (with_leading l xs)
leading_there l xs = In-last (without_leading l.leader.txn xs) l

-- ## Transactions that are decided

pub ending_gone : (txn : TxnNo) (xs : List Ending) → ending_of txn (without_ending txn xs) ≡ None
ending_gone txn xs = gone_found (λ (x : Ending). same_txn x.txn txn) xs

pub ending_left : (other txn : TxnNo) (xs : List Ending) → same_txn other txn ≡ false
    → ending_of other (without_ending txn xs) ≡ ending_of other xs
ending_left other txn xs h =
    left_found (λ (x : Ending). same_txn x.txn other) (λ (x : Ending). same_txn x.txn txn) (λ x. of_other x.txn other txn h) xs

-- where something is awaited it is kept, else it is over
pub ending_set : (x : Ending) (xs : List Ending) → is_some (slice_get x.awaits 0) ≡ true → ending_of x.txn (with_ending x xs) ≡ Some x
ending_set x xs h =
    found_behind (λ (y : Ending). same_txn y.txn x.txn) (without_ending x.txn xs) (cond (is_some (slice_get x.awaits 0)) (x ∷ []) [])
    (ending_gone x.txn xs)
    ∙ ap (λ b. ending_of x.txn (cond b (x ∷ []) [])) h
    ∙ ap (λ b. cond b (Some x) None) (txn_itself x.txn)

pub ending_over : (x : Ending) (xs : List Ending) → is_some (slice_get x.awaits 0) ≡ false → ending_of x.txn (with_ending x xs) ≡ None
ending_over x xs h =
    found_behind (λ (y : Ending). same_txn y.txn x.txn) (without_ending x.txn xs) (cond (is_some (slice_get x.awaits 0)) (x ∷ []) [])
    (ending_gone x.txn xs)
    ∙ ap (λ b. ending_of x.txn (cond b (x ∷ []) [])) h

pub ending_other : (x : Ending) (other : TxnNo) (xs : List Ending) → same_txn other x.txn ≡ false
    → ending_of other (with_ending x xs) ≡ ending_of other xs
ending_other x other xs h =
    none_behind (λ (y : Ending). same_txn y.txn other) (without_ending x.txn xs) (cond (is_some (slice_get x.awaits 0)) (x ∷ []) [])
    (no_other (is_some (slice_get x.awaits 0)))
    ∙ ending_left other x.txn xs h
  where
    no_other : (b : Bool) → ending_of other (cond b (x ∷ []) []) ≡ None
    no_other true = ap (λ b. cond b (Some x) None) (txn_apart other x.txn h)
    no_other false = refl

pub in_without_ending : (txn : TxnNo) (xs : List Ending) (z : Ending) → In z (without_ending txn xs)
    → In z xs × (same_txn z.txn txn ≡ false)
in_without_ending txn xs z i = (
  In-filter (λ (x : Ending). not (same_txn x.txn txn)) z xs i,
  not-true (same_txn z.txn txn) (passing (λ (x : Ending). not (same_txn x.txn txn)) xs z i),
)

pub in_with_ending : (x : Ending) (xs : List Ending) (z : Ending) → In z (with_ending x xs)
    → ((z ≡ x) × (is_some (slice_get x.awaits 0) ≡ true)) ⊎ (In z xs × (same_txn z.txn x.txn ≡ false))
in_with_ending x xs z i = elim (In-append z (without_ending x.txn xs) (cond (is_some (slice_get x.awaits 0)) (x ∷ []) []) i)
    as (λ _. ((z ≡ x) × (is_some (slice_get x.awaits 0) ≡ true)) ⊎ (In z xs × (same_txn z.txn x.txn ≡ false))) [
      | inl j ↦ inr (in_without_ending x.txn xs z j)
      | inr j ↦ new (is_some (slice_get x.awaits 0)) refl j
    ]
  where
    new : (b : Bool) → is_some (slice_get x.awaits 0) ≡ b → In z (cond b (x ∷ []) [])
        → ((z ≡ x) × (is_some (slice_get x.awaits 0) ≡ true)) ⊎ (In z xs × (same_txn z.txn x.txn ≡ false))
    new true t (inl e) = inl (e, t)
    new true t (inr k) = absurd k
    new false t k = absurd k

pub ending_stays : (txn : TxnNo) (xs : List Ending) (z : Ending) → In z xs → same_txn z.txn txn ≡ false → In z (without_ending txn xs)
ending_stays txn xs z i h = kept_in (λ (x : Ending). not (same_txn x.txn txn)) z xs i (ap not h)

pub ending_kept : (x : Ending) (xs : List Ending) (z : Ending) → In z xs → same_txn z.txn x.txn ≡ false → In z (with_ending x xs)
ending_kept x xs z i h =
    In-front z (without_ending x.txn xs) (cond (is_some (slice_get x.awaits 0)) (x ∷ []) []) (ending_stays x.txn xs z i h)

pub ending_there : (x : Ending) (xs : List Ending) → is_some (slice_get x.awaits 0) ≡ true → In x (with_ending x xs)
ending_there x xs h =
    In-behind x (without_ending x.txn xs) (cond (is_some (slice_get x.awaits 0)) (x ∷ []) [])
    (subst (λ b. In x (cond b (x ∷ []) [])) (sym h) (inl refl))

-- ## Parts that wait

pub part_gone : (key : Key) (xs : List Ready) → find (is_part key.txn key.part) (without_prepared key.txn key.part xs) ≡ None
part_gone key xs = gone_found (is_part key.txn key.part) xs

abbrev pub its_key : Ready → Key
its_key x = record { txn = x.txn; part = x.number }

pub part_left : (key other : Key) (xs : List Ready) → same_key other key ≡ false
    → find (is_part other.txn other.part) (without_prepared key.txn key.part xs) ≡ find (is_part other.txn other.part) xs
part_left key other xs h =
    left_found (is_part other.txn other.part) (is_part key.txn key.part) (λ x. of_other_part (its_key x) other key h) xs

-- one more
pub part_last : (x : Ready) (xs : List Ready) → find (is_part x.txn x.number) xs ≡ None
    → find (is_part x.txn x.number) (xs ++ x ∷ []) ≡ Some x
part_last x xs h = found_behind (is_part x.txn x.number) xs (x ∷ []) h ∙ ap (λ b. cond b (Some x) None) (key_itself (its_key x))

pub part_other : (x : Ready) (other : Key) (xs : List Ready) → same_key other (its_key x) ≡ false
    → find (is_part other.txn other.part) (xs ++ x ∷ []) ≡ find (is_part other.txn other.part) xs
part_other x other xs h =
    none_behind (is_part other.txn other.part) xs (x ∷ []) (ap (λ b. cond b (Some x) None) (key_apart other (its_key x) h))

-- ## Parts that said Yes here

-- a part of the transaction that its leader has
pub record IsSaid (me : ℕ) (l : Leading) (y : Agreed) : Type 0 where
  pub txn : y.key.txn ≡ l.leader.txn
  pub session : y.wanted.session ≡ l.leader.session
  pub part : slice_get l.leader.parts y.key.part ≡ Some y.wanted.part
  pub at : ℕ
  pub own : In (y.key.part, at) (own_parts me l)

pub said_its : (me : ℕ) (l : Leading) (y : Agreed) → In y (said_by me l) → IsSaid me l y
said_its me l y i =
    let q = In_some (λ (x : ℕ × ℕ). agreed_part l x.0 (slice_get l.leader.parts x.0)) y (own_parts me l) i in
    its q.0 q.1.0 q.1.1
  where
    its : (x : ℕ × ℕ) → In x (own_parts me l) → In y (agreed_part l x.0 (slice_get l.leader.parts x.0)) → IsSaid me l y
    its x i j =
        elim (slice_get l.leader.parts x.0) as (λ o. slice_get l.leader.parts x.0 ≡ o → In y (agreed_part l x.0 o) → IsSaid me l y) [
          | None ↦ λ e k. absurd k
          | Some p ↦ λ e k. elim k as (λ _. IsSaid me l y) [
            | inl is ↦ subst (IsSaid me l) (sym is) (record { txn = refl; session = refl; part = e; at = x.1; own = i })
            | inr z ↦ absurd z
          ]
        ] refl j

-- each part of the transaction that said Yes here is one of them
pub said_so : (me : ℕ) (l : Leading) (number at : ℕ) (p : Part) → In (number, at) (own_parts me l)
    → slice_get l.leader.parts number ≡ Some p
    → In (let y : Agreed =
    record { key = record { txn = l.leader.txn; part = number }; wanted = record { session = l.leader.session; part = p } } in y)
    (said_by me l)
said_so me l number at p i e =
    In_all (λ (x : ℕ × ℕ). agreed_part l x.0 (slice_get l.leader.parts x.0))
    (let y : Agreed =
    record { key = record { txn = l.leader.txn; part = number }; wanted = record { session = l.leader.session; part = p } } in y)
    (number, at) (own_parts me l) i
    (subst (λ o. In
    (let y : Agreed =
    record { key = record { txn = l.leader.txn; part = number }; wanted = record { session = l.leader.session; part = p } } in y)
    (agreed_part l number o)) (sym e) (inl refl))

-- the parts of the transaction, among those that said Yes here
abbrev is_left : TxnNo → Agreed → Bool
is_left txn y = not (same_txn y.key.txn txn)

left_each : (me : ℕ) (txn : TxnNo) (l : Leading) (b : Bool) → same_txn l.leader.txn txn ≡ b → (y : Agreed) → In y (said_by me l)
    → is_left txn y ≡ not b
left_each me txn l b t y i = ap (λ n. not (same_txn n txn)) (said_its me l y i).txn ∙ ap not t

left_front : (me : ℕ) (txn : TxnNo) (l : Leading) (ys : List Agreed)
    → without_txn txn (said_by me l ++ ys) ≡ without_txn txn (said_by me l) ++ without_txn txn ys
left_front me txn l ys = filter-append (is_left txn) (said_by me l) ys

pub said_left : (me : ℕ) (txn : TxnNo) (xs : List Leading) → flat_map (said_by me) (without_leading txn xs) ≡ without_txn txn
    (flat_map (said_by me) xs)
said_left me txn [] = refl
said_left me txn (l ∷ ls) = at (same_txn l.leader.txn txn) refl (said_left me txn ls)
  where
    at : (b : Bool) → same_txn l.leader.txn txn ≡ b → flat_map (said_by me) (without_leading txn ls) ≡ without_txn txn
        (flat_map (said_by me) ls)
        → flat_map (said_by me) (cond (not b) (l ∷ without_leading txn ls) (without_leading txn ls))
        ≡ without_txn txn (said_by me l ++ flat_map (said_by me) ls)
    at true t rest =
        let front = left_front me txn l (flat_map (said_by me) ls) in
        let none = none_stay (is_left txn) (said_by me l) (left_each me txn l true t) in
        rest ∙ sym (front ∙ ap (λ ys. ys ++ without_txn txn (flat_map (said_by me) ls)) none)
    at false t rest =
        let front = left_front me txn l (flat_map (said_by me) ls) in
        let all = all_stay (is_left txn) (said_by me l) (left_each me txn l false t) in
        ap (λ ys. said_by me l ++ ys) rest ∙ sym (front ∙ ap (λ ys. ys ++ without_txn txn (flat_map (said_by me) ls)) all)

pub said_with : (me : ℕ) (l : Leading) (xs : List Leading) → flat_map (said_by me) (with_leading l xs) ≡ without_txn l.leader.txn
    (flat_map (said_by me) xs) ++ said_by me l
said_with me l xs =
    flat_map-append (said_by me) (without_leading l.leader.txn xs) (l ∷ [])
    ∙ ap (λ ys. ys ++ (said_by me l ++ [])) (said_left me l.leader.txn xs)
    ∙ ap (λ ys. without_txn l.leader.txn (flat_map (said_by me) xs) ++ ys) (append-nil (said_by me l))

-- one more part waits
pub said_more : (x : Ready) (xs : List Ready) (ls : List Agreed) (y : Agreed) → In y (map agreed_of (xs ++ x ∷ []) ++ ls)
    → In y (agreed_of x ∷ (map agreed_of xs ++ ls))
said_more x [] ls y i = i
said_more x (z ∷ zs) ls y (inl e) = inr (inl e)
said_more x (z ∷ zs) ls y (inr i) =
    elim (said_more x zs ls y i) as (λ _. In y (agreed_of x ∷ (map agreed_of (z ∷ zs) ++ ls))) [ inl e ↦ inl e | inr j ↦ inr (inr j) ]

pub said_no_less : (x : Ready) (xs : List Ready) (ls : List Agreed) (y : Agreed) → In y (agreed_of x ∷ (map agreed_of xs ++ ls))
    → In y (map agreed_of (xs ++ x ∷ []) ++ ls)
said_no_less x [] ls y i = i
said_no_less x (z ∷ zs) ls y (inl e) = inr (said_no_less x zs ls y (inl e))
said_no_less x (z ∷ zs) ls y (inr (inl e)) = inl e
said_no_less x (z ∷ zs) ls y (inr (inr i)) = inr (said_no_less x zs ls y (inr i))

-- ## Transactions whose rows stay locked

pub in_kept : (xs : List Ending) (z : Kept) → In z (kept_by xs)
    → (x : Ending) × (In x xs × ((keeps_till_done x.end ≡ true) × ((z.txn ≡ x.txn) × (z.session ≡ x.session))))
in_kept xs z i =
    let q = In-map (λ (x : Ending). let k : Kept = record { txn = x.txn; session = x.session } in k) z
    (filter (λ (x : Ending). keeps_till_done x.end) xs) i in (
      q.0,
      (
        In-filter (λ (x : Ending). keeps_till_done x.end) q.0 xs q.1.0,
        (
          passing (λ (x : Ending). keeps_till_done x.end) xs q.0 q.1.0,
          (ap (λ (k : Kept). k.txn) q.1.1, ap (λ (k : Kept). k.session) q.1.1),
        ),
      ),
    )

pub kept_there : (x : Ending) (xs : List Ending) → In x xs → keeps_till_done x.end ≡ true
    → In (let k : Kept = record { txn = x.txn; session = x.session } in k) (kept_by xs)
kept_there x xs i h =
    In-mapped (λ (x : Ending). let k : Kept = record { txn = x.txn; session = x.session } in k) x
    (filter (λ (x : Ending). keeps_till_done x.end) xs) (kept_in (λ (x : Ending). keeps_till_done x.end) x xs i h)

abbrev kept_of : Ending → Kept
kept_of x = record { txn = x.txn; session = x.session }

abbrev kept_more : Bool → Ending → List Ending → List Kept
kept_more d x ys =
    map kept_of (cond d (x ∷ filter (λ (y : Ending). keeps_till_done y.end) ys) (filter (λ (y : Ending). keeps_till_done y.end) ys))

pub kept_left : (txn : TxnNo) (xs : List Ending) → kept_by (without_ending txn xs) ≡ without_kept txn (kept_by xs)
kept_left txn [] = refl
kept_left txn (x ∷ xs) = at (same_txn x.txn txn) (keeps_till_done x.end) refl refl (kept_left txn xs)
  where
    at : (b d : Bool) → same_txn x.txn txn ≡ b → keeps_till_done x.end ≡ d → kept_by (without_ending txn xs) ≡ without_kept txn (kept_by xs)
        → kept_by (cond (not b) (x ∷ without_ending txn xs) (without_ending txn xs)) ≡ without_kept txn (kept_more d x xs)
    at true true t e rest =
        rest ∙ ap (λ b. cond (not b) (kept_of x ∷ without_kept txn (kept_by xs)) (without_kept txn (kept_by xs))) (sym t)
    at true false t e rest = rest
    at false true t e rest =
        ap (λ d. kept_more d x (without_ending txn xs)) e
        ∙ ap (λ ys. kept_of x ∷ ys) rest
        ∙ ap (λ b. cond (not b) (kept_of x ∷ without_kept txn (kept_by xs)) (without_kept txn (kept_by xs))) (sym t)
    at false false t e rest = ap (λ d. kept_more d x (without_ending txn xs)) e ∙ rest

-- ## Locks, where the same parts and commits are spoken of

pub locks_alike : (rows : List Row) (said new : List Agreed) (kept then : List Kept) → ((y : Agreed) → In y new → In y said)
    → ((y : Agreed) → In y said → In y new)
    → ((z : Kept) → In z kept → In z then) → LocksHold rows said kept → LocksHold rows new then
locks_alike rows said new kept then back on k h = record {
  locked = λ y i. h.locked y (back y i);
  used = λ r t i e. elim (h.used r t i e) as (λ _. IsOf new t r.session ⊎ IsKept then t r.session) [
    | inl o ↦ inl (record { agreed = o.agreed; among = on o.agreed o.among; its = o.its; session = o.session })
    | inr q ↦ inr (record { commit = q.commit; among = k q.commit q.among; its = q.its; session = q.session })
  ];
}
