-- Walks of the table of needs.
use Rattle.std.proofs.Common.{◌≡◌, Bool, true, false, not, [], ◌∷◌, refl, ap, cond, sym, ◌∙◌, inl, inr}
use Rattle.std.specs.Prelude.{None, is_some}
use Rattle.std.specs.List.{filter}
use Rattle.fs_ident.specs.In.{In}
use Rattle.fs_field.specs.declared.asked.Need.{Need}
use Rattle.fs_field.specs.declared.asked.Need.TheVariants.{Lease, Fresh}
use Rattle.fs_model.specs.declared.op.Op.{Op}
use Rattle.fs_view.specs.declared.walk.Walk.{Walk}
use Rattle.fs_view.specs.Script.{Script, answer, ask, give, script_of}
use Rattle.fs_view.specs.Laws.{HasAll}
use Rattle.fs_view.specs.Walk.{Known, Given, behind, walk_along, walk, is_there, missing}

behind_there : (test : Need → Bool) (need : Need) (b : Bool) (rest : Walk) → test need ≡ not b → (filter test rest.items ≡ [] → is_some rest.reply ≡ true) → filter test (behind need b rest).items ≡ [] → is_some (behind need b rest).reply ≡ true
behind_there test need true rest t go h = go (sym (ap (λ c. cond c (need ∷ filter test rest.items) (filter test rest.items)) t) ∙ h)
behind_there test need false rest t go h = let e : need ∷ filter test rest.items ≡ [] = sym (ap (λ c. cond c (need ∷ filter test rest.items) (filter test rest.items)) t) ∙ h in absurd (cc)

-- a walk that misses nothing has a reply
pub all_there : (known : Known) (given : Given) (s : Script) → filter (λ need. not (is_there known given need)) (walk_along known given s).items ≡ [] → is_some (walk_along known given s).reply ≡ true
all_there known given (answer r) h = refl
all_there known given (ask field kind go) h =
    behind_there (λ need. not (is_there known given need)) (Lease field kind) (is_some (known field kind)) (walk_along known given (go (known field kind))) refl (all_there known given (go (known field kind))) h
all_there known given (give dir go) h =
    behind_there (λ need. not (is_there known given need)) (Fresh dir) (given dir) (walk_along known given go) refl (all_there known given go) h

pub replied : (known : Known) (given : Given) (o : Op) → missing known given o ≡ [] → (walk known given o).reply ≡ None → ⊥
replied known given o h n = let e : is_some (walk known given o).reply ≡ true = all_there known given (script_of o) h in let f : false ≡ true = sym (ap (λ r. is_some r) n) ∙ e in absurd (cc)

-- an item that is there, and the rest
pub behind_alike : (need : Need) (b b' : Bool) (rest rest' : Walk) → is_some (behind need b rest).reply ≡ true → (b ≡ true → b' ≡ true) → (is_some rest.reply ≡ true → b ≡ true → rest' ≡ rest) → behind need b' rest' ≡ behind need b rest
behind_alike need true b' rest rest' h there alike = ap (λ c. behind need c rest') (there refl) ∙ ap (behind need true) (alike h refl)
behind_alike need false b' rest rest' h there alike = absurd (cc)

pub items_behind : (need x : Need) (b : Bool) (rest : Walk) → In x rest.items → In x (behind need b rest).items
items_behind need x true rest i = inr i
items_behind need x false rest i = inr i

pub first_behind : (need : Need) (b : Bool) (rest : Walk) → In need (behind need b rest).items
first_behind need true rest = inl refl
first_behind need false rest = inl refl

-- where a walk misses nothing, whoever knows its items walks alike
pub alike : (known other : Known) (given others : Given) (s : Script) → is_some (walk_along known given s).reply ≡ true → HasAll known other others (walk_along known given s).items → walk_along other others s ≡ walk_along known given s
alike known other given others (answer r) h has = refl
alike known other given others (ask field kind go) h has =
    let same : other field kind ≡ known field kind = has (Lease field kind) (first_behind (Lease field kind) (is_some (known field kind)) (walk_along known given (go (known field kind)))) in
    behind_alike (Lease field kind) (is_some (known field kind)) (is_some (other field kind)) (walk_along known given (go (known field kind))) (walk_along other others (go (other field kind))) h
    (λ t. ap (λ v. is_some v) same ∙ t)
    (λ r t. ap (λ v. walk_along other others (go v)) same ∙ alike known other given others (go (known field kind)) r (λ need i. has need (items_behind (Lease field kind) need (is_some (known field kind)) (walk_along known given (go (known field kind))) i)))
alike known other given others (give dir go) h has =
    behind_alike (Fresh dir) (given dir) (others dir) (walk_along known given go) (walk_along other others go) h
    (λ t. has (Fresh dir) (first_behind (Fresh dir) (given dir) (walk_along known given go)))
    (λ r t. alike known other given others go r (λ need i. has need (items_behind (Fresh dir) need (given dir) (walk_along known given go) i)))
