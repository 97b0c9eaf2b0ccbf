-- Words of one part, and of others.
use Rattle.std.proofs.Common.{◌≡◌, ◌==◌, ℕ, Bool, true, false, List, [], ◌∷◌, ◌++◌, refl, sym, ap, ap₂, ◌∙◌, subst, inl, inr, cond, filter}
use Rattle.std.specs.Prelude.{Some}
use Rattle.std.specs.List.{find}
use Rattle.std.proofs.lemmas.Bool.{eqb-true}
use Rattle.std.proofs.lemmas.List.Elements.{filter-append}
use Rattle.fs_ident.specs.In.{In}
use Rattle.fs_ident.specs.declared.actor.TxnNo.{TxnNo}
use Rattle.fs_ident.proofs.Booleans.{both, joined}
use Rattle.fs_ident.proofs.Same.{itself}
use Rattle.fs_field.specs.Table.{same_txn}
use Rattle.fs_txn.specs.Stages.{Key, Told, is_of, same_key, told_of}
use Rattle.fs_txn.specs.Telling.{without_first}

pub txn_is : (a b : TxnNo) → same_txn a b ≡ true → a ≡ b
txn_is a b h =
    let q : ((a.server == b.server) ≡ true) × ((a.count == b.count) ≡ true) = both (a.server == b.server) (a.count == b.count) h in
    ap₂ (λ (x y : ℕ). let t : TxnNo = record { server = x; count = y } in t) (eqb-true a.server b.server q.0) (eqb-true a.count b.count q.1)

pub txn_itself : (a : TxnNo) → same_txn a a ≡ true
txn_itself a = joined _ _ (itself a.server) (itself a.count)

pub key_is : (a b : Key) → same_key a b ≡ true → a ≡ b
key_is a b h =
    let q : (same_txn a.txn b.txn ≡ true) × ((a.part == b.part) ≡ true) = both (same_txn a.txn b.txn) (a.part == b.part) h in
    ap₂ (λ (x : TxnNo) (y : ℕ). let t : Key = record { txn = x; part = y } in t) (txn_is a.txn b.txn q.0) (eqb-true a.part b.part q.1)

pub key_itself : (a : Key) → same_key a a ≡ true
key_itself a = joined _ _ (txn_itself a.txn) (itself a.part)

-- the words of a part that is not this one's
pub other_word : (key other : Key) (m : Told) → m.key ≡ key → same_key other key ≡ false → is_of other m ≡ false
other_word key other m e h = elim (is_of other m) as (λ b. is_of other m ≡ b → b ≡ false) [
  | true ↦ λ t. let wrong : true ≡ false = sym (key_itself key) ∙ ap (λ k. same_key k key) (sym e ∙ key_is m.key other t) ∙ h in absurd (cc)
  | false ↦ λ t. refl
] refl

-- a word more
pub told_push : (key : Key) (m : Told) (telling : List Told) → m.key ≡ key → told_of key (telling ++ m ∷ []) ≡ told_of key telling ++ m ∷ []
told_push key m telling e = filter-append (is_of key) telling (m ∷ []) ∙ ap (λ b. told_of key telling ++ cond b (m ∷ []) []) (ap (λ k. same_key k key) e ∙ key_itself key)

pub other_push : (key other : Key) (m : Told) (telling : List Told) → m.key ≡ key → same_key other key ≡ false → told_of other (telling ++ m ∷ []) ≡ told_of other telling
other_push key other m telling e h = filter-append (is_of other) telling (m ∷ []) ∙ ap (λ b. told_of other telling ++ cond b (m ∷ []) []) (other_word key other m e h) ∙ nothing (told_of other telling)
  where
    nothing : (xs : List Told) → (xs ++ []) ≡ xs
    nothing [] = refl
    nothing (x ∷ xs) = ap (λ ys. x ∷ ys) (nothing xs)

-- the first that passes is taken: the words of other parts stay
pub other_taken : (is : Told → Bool) (keep : Told → Bool) (m : Told) (telling : List Told) → find is telling ≡ Some m → keep m ≡ false → filter keep (without_first is telling) ≡ filter keep telling
other_taken is keep m [] f h = absurd (cc)
other_taken is keep m (x ∷ xs) f h = elim (is x) as (λ b. cond b (Some x) (find is xs) ≡ Some m → filter keep (cond b xs (x ∷ without_first is xs)) ≡ filter keep (x ∷ xs)) [
  | true ↦ λ g. let same : x ≡ m = cc in ap (λ b. cond b (x ∷ filter keep xs) (filter keep xs)) (sym (ap keep same ∙ h))
  | false ↦ λ g. ap (λ ys. cond (keep x) (x ∷ ys) ys) (other_taken is keep m xs g h)
] f

-- it stands among those that it is one of
pub kept_in : {X : Type 0} (keep : X → Bool) (m : X) (xs : List X) → In m xs → keep m ≡ true → In m (filter keep xs)
kept_in keep m [] i h = i
kept_in keep m (x ∷ xs) (inl e) h = subst (λ b. In m (cond b (x ∷ filter keep xs) (filter keep xs))) (sym (ap keep (sym e) ∙ h)) (inl e)
kept_in keep m (x ∷ xs) (inr i) h = elim (keep x) as (λ b. In m (cond b (x ∷ filter keep xs) (filter keep xs))) [ true ↦ inr (kept_in keep m xs i h) | false ↦ kept_in keep m xs i h ]

pub found : (is : Told → Bool) (m : Told) (telling : List Told) → find is telling ≡ Some m → In m telling
found is m [] f = absurd (cc)
found is m (x ∷ xs) f = elim (is x) as (λ b. cond b (Some x) (find is xs) ≡ Some m → In m (x ∷ xs)) [
  | true ↦ λ g. let same : x ≡ m = cc in inl (sym same)
  | false ↦ λ g. inr (found is m xs g)
] f

-- taken from those of which it is the only one, it leaves none
pub alone_taken : (is keep : Told → Bool) (m only : Told) (telling : List Told) → find is telling ≡ Some m → keep m ≡ true → filter keep telling ≡ only ∷ [] → filter keep (without_first is telling) ≡ []
alone_taken is keep m only [] f h e = absurd (cc)
alone_taken is keep m only (x ∷ xs) f h e = elim (is x) as (λ b. cond b (Some x) (find is xs) ≡ Some m → filter keep (cond b xs (x ∷ without_first is xs)) ≡ []) [
  | true ↦ λ g.
      let same : x ≡ m = cc in
      let all : (x ∷ filter keep xs) ≡ (only ∷ []) = subst (λ b. cond b (x ∷ filter keep xs) (filter keep xs) ≡ only ∷ []) (ap keep same ∙ h) e in
      cc
  | false ↦ λ g. elim (keep x) as (λ b. cond b (x ∷ filter keep xs) (filter keep xs) ≡ only ∷ [] → cond b (x ∷ filter keep (without_first is xs)) (filter keep (without_first is xs)) ≡ []) [
    | true ↦ λ all.
        let none : filter keep xs ≡ [] = cc in
        absurd (subst (λ ys. In m ys) none (kept_in keep m xs (found is m xs g) h))
    | false ↦ λ all. alone_taken is keep m only xs g h all
  ] e
] f
