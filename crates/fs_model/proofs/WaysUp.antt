-- What is known of the way up.
use Rattle.std.proofs.Common.{◌≡◌, ◌≢◌, ◌-◌, ◌∙◌, ◌+◌, ◌<◌, ℕ, zero, suc, List, [], ◌∷◌, ◌++◌, Bool, true, false, refl, sym, ap, subst, cond, length, arith, nat_eq}
use Rattle.std.proofs.lemmas.Bool.{eqb-true, eqb-false}
use Rattle.std.specs.Prelude.{◌==◌, Option, Some, None, is_some, option_map, slice_get, slice_set, slice_index_or, Result, Ok, Err, IfOk, OnOk, OnErr}
use Rattle.std.specs.Ordering.{nat_cmp, eq_by_cmp}
use Rattle.std.specs.Cmp.Lexicographic.{slice_cmp, nat_list_cmp_total, pointwise, bytes_decides}
use Rattle.std.specs.FinMap.{FinMap, empty, get, insert, get-empty, get-insert}
use Rattle.fs_ident.proofs.Booleans.{equal_is}
use Rattle.fs_ident.proofs.MapsOf.{anti, put_here}
use Rattle.fs_model.specs.declared.ways.Way.{Way}
use Rattle.fs_model.specs.Namespace.{NodeMap}
use Rattle.std.proofs.lemmas.Bool.{false_from_ne_true}
use Rattle.fs_model.proofs.Chains.{is_the_file, reaches_from, from_top, from_up}
use Rattle.fs_model.specs.Ways.{file_at, known_up, up_at, directory_from, IsWayUp, AreTrue, AreSole, ArePlaced, KeepsFiles, IsGrown, IsAbove, StayBut, StaysTrueBut, with_up}

none_some : {X : Type 0} {P : Type 0} (x : X) → ◌≡◌ {A = Option X} None (Some x) → P
none_some x e = absurd (cc)

-- ## Files at places

pub files_with_up : (ways : List Way) (at : ℕ) (up : Option ℕ) (j : ℕ) → file_at (with_up ways at up) j ≡ file_at ways j
files_with_up [] at up j = refl
files_with_up (w ∷ ways) zero up zero = refl
files_with_up (w ∷ ways) zero up (suc j) = refl
files_with_up (w ∷ ways) (suc at) up zero = refl
files_with_up (w ∷ ways) (suc at) up (suc j) = files_with_up ways at up j

pub ups_with_up : (ways : List Way) (at : ℕ) (up : Option ℕ) (j : ℕ) → (j ≡ at → ⊥) → up_at (with_up ways at up) j ≡ up_at ways j
ups_with_up [] at up j n = refl
ups_with_up (w ∷ ways) zero up zero n = absurd (n refl)
ups_with_up (w ∷ ways) zero up (suc j) n = refl
ups_with_up (w ∷ ways) (suc at) up zero n = refl
ups_with_up (w ∷ ways) (suc at) up (suc j) n = ups_with_up ways at up j (λ e. n (ap suc e))

pub up_with_up : (ways : List Way) (at : ℕ) (up : Option ℕ) → at < length ways → up_at (with_up ways at up) at ≡ up
up_with_up [] at up h = absurd (omega arith)
up_with_up (w ∷ ways) zero up h = refl
up_with_up (w ∷ ways) (suc at) up h = up_with_up ways at up (omega arith)

pub set_with_up : (ways : List Way) (at : ℕ) (up : Option ℕ) (w : Way) → at < length ways → w ≡ slice_index_or ways at w → slice_set ways at (record w { up = up }) ≡ with_up ways at up
set_with_up [] at up w h e = absurd (omega arith)
set_with_up (v ∷ ways) zero up w h e = ap (λ (x : Way). record x { up = up } ∷ ways) e
set_with_up (v ∷ ways) (suc at) up w h e = ap (λ (ws : List Way). v ∷ ws) (set_with_up ways at up w (omega arith) e)

pub file_within : (ways : List Way) (at : ℕ) (id : List ℕ) → file_at ways at ≡ Some id → at < length ways
file_within [] at id e = none_some id e
file_within (w ∷ ways) zero id e = omega arith
file_within (w ∷ ways) (suc at) id e = let h = file_within ways at id e in omega arith

pub within_file : (ways : List Way) (at : ℕ) → is_some (file_at ways at) ≡ true → at < length ways
within_file [] at e = absurd (cc)
within_file (w ∷ ways) zero e = omega arith
within_file (w ∷ ways) (suc at) e = let h = within_file ways at e in omega arith

-- ## One file more

pub file_before : (ways : List Way) (w : Way) (at : ℕ) → at < length ways → slice_get (ways ++ w ∷ []) at ≡ slice_get ways at
file_before [] w at h = absurd (omega arith)
file_before (v ∷ ways) w zero h = refl
file_before (v ∷ ways) w (suc at) h = file_before ways w at (omega arith)

pub file_last : (ways : List Way) (w : Way) → slice_get (ways ++ w ∷ []) (length ways) ≡ Some w
file_last [] w = refl
file_last (v ∷ ways) w = file_last ways w

-- what stands at a place then stood there, or is the new one at its place
pub one_more : {P : Type 0} (ways : List Way) (w : Way) (at : ℕ) (v : Way) → slice_get (ways ++ w ∷ []) at ≡ Some v → (slice_get ways at ≡ Some v → P) → (at ≡ length ways → w ≡ v → P) → P
one_more [] w zero v e p q = let s : w ≡ v = cc in q refl s
one_more [] w (suc at) v e p q = none_some v e
one_more (u ∷ ways) w zero v e p q = p e
one_more (u ∷ ways) w (suc at) v e p q = one_more ways w at v e p (λ h s. q (ap suc h) s)

abbrev pub Places : Type 0
Places = FinMap (slice_cmp nat_cmp) ℕ

abbrev pub new_way : List ℕ → Way
new_way id = record { file = id; up = None }

file_more : {P : Type 0} (ways : List Way) (w : Way) (at : ℕ) (id : List ℕ) → file_at (ways ++ w ∷ []) at ≡ Some id → (file_at ways at ≡ Some id → P) → (at ≡ length ways → w.file ≡ id → P) → P
file_more [] w zero id e p q = let s : w.file ≡ id = cc in q refl s
file_more [] w (suc at) id e p q = none_some id e
file_more (u ∷ ways) w zero id e p q = p e
file_more (u ∷ ways) w (suc at) id e p q = file_more ways w at id e p (λ h s. q (ap suc h) s)

file_stays : (ways : List Way) (w : Way) (at : ℕ) (id : List ℕ) → file_at ways at ≡ Some id → file_at (ways ++ w ∷ []) at ≡ Some id
file_stays ways w at id e = ap (option_map (λ (w : Way). w.file)) (file_before ways w at (file_within ways at id e)) ∙ e

up_more : (ways : List Way) (id : List ℕ) (at up : ℕ) → up_at (ways ++ new_way id ∷ []) at ≡ Some up → up_at ways at ≡ Some up
up_more [] id zero up e = none_some up e
up_more [] id (suc at) up e = e
up_more (u ∷ ways) id zero up e = e
up_more (u ∷ ways) id (suc at) up e = up_more ways id at up e

pub grown_same : (ways : List Way) → IsGrown ways ways
grown_same ways = record { files = λ at id e. e; ups = λ at up e. e }

pub grown_more : (ways : List Way) (id : List ℕ) → IsGrown ways (ways ++ new_way id ∷ [])
grown_more ways id = record { files = λ at k e. file_stays ways (new_way id) at k e; ups = λ at up e. up_more ways id at up e }

got : {P : Type 0} (places : Places) (id k : List ℕ) (n : ℕ) (o : Option ℕ) → get (insert places id n) k ≡ o → (k ≡ id → Some n ≡ o → P) → (eq_by_cmp (slice_cmp nat_cmp) k id ≡ false → get places k ≡ o → P) → P
got {P} places id k n o e p q = go (eq_by_cmp (slice_cmp nat_cmp) k id) refl (sym (get-insert nat_list_cmp_total places id n k) ∙ e)
  where
    go : (b : Bool) → eq_by_cmp (slice_cmp nat_cmp) k id ≡ b → cond b (Some n) (get places k) ≡ o → P
    go true t e = p (anti k id (equal_is _ t)) e
    go false t e = q t e

pub placed_more : (places : Places) (ways : List Way) (id : List ℕ) → get places id ≡ None → ArePlaced places ways → ArePlaced (insert places id (length ways)) (ways ++ new_way id ∷ [])
placed_more places ways id free own = record {
  listed = λ k at e. got places id k (length ways) (Some at) e
      (λ same here. last k at same here)
      (λ _ there. file_stays ways (new_way id) at k (own.listed k at there));
  told = λ k at e. file_more ways (new_way id) at k e (λ there. before k at (own.told k at there)) (λ end same. new k at end same);
}
  where
    last : (k : List ℕ) (at : ℕ) → k ≡ id → Some (length ways) ≡ Some at → file_at (ways ++ new_way id ∷ []) at ≡ Some k
    last k at same here =
        let end : length ways ≡ at = cc in
        subst (λ n. file_at (ways ++ new_way id ∷ []) n ≡ Some k) end (ap (option_map (λ (w : Way). w.file)) (file_last ways (new_way id)) ∙ ap Some (sym same))

    before : (k : List ℕ) (at : ℕ) → get places k ≡ Some at → get (insert places id (length ways)) k ≡ Some at
    before k at there = got places id k (length ways) _ refl
        (λ same _. none_some at (sym free ∙ ap (λ i. get places i) (sym same) ∙ there))
        (λ _ e. sym e ∙ there)

    new : (k : List ℕ) (at : ℕ) → at ≡ length ways → id ≡ k → get (insert places id (length ways)) k ≡ Some at
    new k at end same = subst (λ i. get (insert places id (length ways)) i ≡ Some at) same (put_here places id (length ways) ∙ ap Some (sym end))

-- a list after a call that adds a file or nothing
pub placed_added : {E : Type 0} (r : Result ℕ E) (p q : Places) (ws vs : List Way) (id : List ℕ) → get p id ≡ None → OnOk r (vs ≡ ws ++ new_way id ∷ []) → OnOk r (q ≡ insert p id (length ws)) → OnErr r (vs ≡ ws) → OnErr r (q ≡ p) → ArePlaced p ws → ArePlaced q vs
placed_added (Ok n) p q ws vs id free a b c d own = subst (λ m. ArePlaced m vs) (sym b) (subst (λ w. ArePlaced (insert p id (length ws)) w) (sym a) (placed_more p ws id free own))
placed_added (Err e) p q ws vs id free a b c d own = subst (λ m. ArePlaced m vs) (sym d) (subst (λ w. ArePlaced p w) (sym c) own)

pub grown_added : {E : Type 0} (r : Result ℕ E) (ws vs : List Way) (id : List ℕ) → OnOk r (vs ≡ ws ++ new_way id ∷ []) → OnErr r (vs ≡ ws) → IsGrown ws vs
grown_added (Ok n) ws vs id a b = subst (λ w. IsGrown ws w) (sym a) (grown_more ws id)
grown_added (Err e) ws vs id a b = subst (λ w. IsGrown ws w) (sym b) (grown_same ws)

pub added_at : {E : Type 0} (r : Result ℕ E) (ws vs : List Way) (id : List ℕ) → OnOk r (vs ≡ ws ++ new_way id ∷ []) → IfOk r (λ at. at ≡ length ws) → IfOk r (λ at. file_at vs at ≡ Some id)
added_at (Ok n) ws vs id a b = subst (λ w. file_at w n ≡ Some id) (sym a) (subst (λ i. file_at (ws ++ new_way id ∷ []) i ≡ Some id) (sym b) (ap (option_map (λ (w : Way). w.file)) (file_last ws (new_way id))))
added_at (Err e) ws vs id a b = tt

pub placed_none : (p : Places) (ws : List Way) → p ≡ empty → ws ≡ [] → ArePlaced p ws
placed_none p ws e w = subst (λ q. ArePlaced q ws) (sym e) (subst (λ v. ArePlaced empty v) (sym w) (record {
  listed = λ id at h. none_some at (sym (get-empty (slice_cmp nat_cmp) id) ∙ h);
  told = λ id at h. none_some id h;
}))

-- ## What is known

pub placed_with_up : (places : Places) (ways vs : List Way) (at : ℕ) (up : Option ℕ) → vs ≡ with_up ways at up → ArePlaced places ways → ArePlaced places vs
placed_with_up places ways vs at up same own = subst (λ w. ArePlaced places w) (sym same) (record {
  listed = λ id j e. files_with_up ways at up j ∙ own.listed id j e;
  told = λ id j e. own.told id j (sym (files_with_up ways at up j) ∙ e);
})

pub sole : (places : Places) (ways : List Way) → ArePlaced places ways → AreSole ways
sole places ways own id at other p q =
    let e : Some at ≡ Some other = sym (own.told id at p) ∙ own.told id other q in
    let same : at ≡ other = cc in same

-- two places of one list are one where the files are
pub same_place : (ways : List Way) → AreSole ways → (a b : ℕ) (x y : List ℕ) → file_at ways a ≡ Some x → file_at ways b ≡ Some y → (a == b) ≡ pointwise nat_eq x y
same_place ways own a b x y p q = go (a == b) refl (pointwise nat_eq x y) refl
  where
    go : (s : Bool) → (a == b) ≡ s → (t : Bool) → pointwise nat_eq x y ≡ t → s ≡ t
    go true h true k = refl
    go false h false k = refl
    go true h false k =
        let e : Some x ≡ Some y = sym p ∙ ap (file_at ways) (eqb-true a b h) ∙ q in
        let f : x ≡ y = cc in
        let t : pointwise nat_eq x y ≡ true = (bytes_decides x y).1 f in absurd (cc)
    go false h true k = absurd (eqb-false a b h (own y a b (p ∙ ap Some ((bytes_decides x y).0 k)) q))

pub is_goal : (ways : List Way) → AreSole ways → (at goal : ℕ) (file : List ℕ) → is_some (file_at ways at) ≡ true → file_at ways goal ≡ Some file → (at == goal) ≡ is_the_file file (file_at ways at)
is_goal ways own at goal file h g = by (file_at ways at) refl h
  where
    by : (o : Option (List ℕ)) → file_at ways at ≡ o → is_some o ≡ true → (at == goal) ≡ is_the_file file o
    by None e k = absurd (cc)
    by (Some x) e k = same_place ways own at goal x file e g

pub true_with_up : (ways vs : List Way) (at up : ℕ) → vs ≡ with_up ways at (Some up) → at < length ways → up < length ways → (m : NodeMap) → AreTrue m ways → file_at ways up ≡ directory_from m (file_at ways at) → AreTrue m vs
true_with_up ways vs at up same ha hu m own leads = subst (λ w. AreTrue m w) (sym same) (λ j u e. by_place j u (j == at) refl e)
  where
    listed : (ws : List Way) (n : ℕ) → n < length ws → is_some (file_at ws n) ≡ true
    listed [] n h = absurd (omega arith)
    listed (w ∷ ws) zero h = refl
    listed (w ∷ ws) (suc n) h = listed ws n (omega arith)

    by_place : (j u : ℕ) (b : Bool) → (j == at) ≡ b → up_at (with_up ways at (Some up)) j ≡ Some u → IsWayUp m (with_up ways at (Some up)) j u
    by_place j u true h e =
        let same : j ≡ at = eqb-true j at h in
        let is : Some up ≡ Some u = sym (up_with_up ways at (Some up) ha) ∙ ap (up_at (with_up ways at (Some up))) (sym same) ∙ e in
        let ups : up ≡ u = cc in
        record {
          listed = ap is_some (files_with_up ways at (Some up) u) ∙ listed ways u (subst (λ n. n < length ways) ups hu);
          leads = files_with_up ways at (Some up) u ∙ ap (file_at ways) (sym ups) ∙ leads ∙ ap (λ n. directory_from m (file_at ways n)) (sym same) ∙ ap (directory_from m) (sym (files_with_up ways at (Some up) j));
        }
    by_place j u false h e =
        let was = own j u (sym (ups_with_up ways at (Some up) j (λ s. eqb-false j at h s)) ∙ e) in
        record {
          listed = ap is_some (files_with_up ways at (Some up) u) ∙ was.listed;
          leads = files_with_up ways at (Some up) u ∙ was.leads ∙ ap (directory_from m) (sym (files_with_up ways at (Some up) j));
        }

way_stays : (m n : NodeMap) (id : List ℕ) (ways : List Way) (at up : ℕ) (o : Option (List ℕ)) → file_at ways at ≡ o → (o ≡ Some id → ⊥) → StayBut id m n → IsWayUp m ways at up → IsWayUp n ways at up
way_stays m n id ways at up None e other stay was = record { listed = was.listed; leads = was.leads ∙ ap (directory_from m) e ∙ ap (directory_from n) (sym e) }
way_stays m n id ways at up (Some k) e other stay was = record {
  listed = was.listed;
  leads = was.leads ∙ ap (directory_from m) e ∙ sym (stay k (λ s. other (ap Some s))) ∙ ap (directory_from n) (sym e);
}

pub forgotten : (places : Places) (ways vs : List Way) (id : List ℕ) (at : ℕ) → ArePlaced places ways → get places id ≡ Some at → vs ≡ with_up ways at None → StaysTrueBut id ways vs
forgotten places ways vs id at own here same m n stay were = subst (λ w. AreTrue n w) (sym same) (λ j u e. by_place j u (j == at) refl e)
  where
    by_place : (j u : ℕ) (b : Bool) → (j == at) ≡ b → up_at (with_up ways at None) j ≡ Some u → IsWayUp n (with_up ways at None) j u
    by_place j u true h e =
        let same : j ≡ at = eqb-true j at h in
        none_some u (sym (up_with_up ways at None (file_within ways at id (own.listed id at here))) ∙ ap (up_at (with_up ways at None)) (sym same) ∙ e)
    by_place j u false h e =
        let was = were j u (sym (ups_with_up ways at None j (λ s. eqb-false j at h s)) ∙ e) in
        let other : file_at ways j ≡ Some id → ⊥ = λ f. let p : Some j ≡ Some at = sym (own.told id j f) ∙ here in let q : j ≡ at = cc in eqb-false j at h q in
        let kept = way_stays m n id ways j u (file_at ways j) refl other stay was in
        record {
          listed = ap is_some (files_with_up ways at None u) ∙ kept.listed;
          leads = files_with_up ways at None u ∙ kept.leads ∙ ap (directory_from n) (sym (files_with_up ways at None j));
        }

pub unknown : (places : Places) (ways : List Way) (id : List ℕ) → ArePlaced places ways → get places id ≡ None → StaysTrueBut id ways ways
unknown places ways id own none m n stay were j u e =
    let other : file_at ways j ≡ Some id → ⊥ = λ f. none_some j (sym none ∙ own.told id j f) in
    way_stays m n id ways j u (file_at ways j) refl other stay (were j u e)

pub grown_true : (m : NodeMap) (ways vs : List Way) → IsGrown ways vs → AreTrue m ways → AreTrue m vs
grown_true m ways vs grown own at up e =
    let was = own at up (grown.ups at up e) in
    by_up (file_at ways up) refl was.listed (by_at (slice_get ways at) refl (grown.ups at up e)) was.leads
  where
    by_at : (o : Option Way) → slice_get ways at ≡ o → known_up o ≡ Some up → file_at vs at ≡ file_at ways at
    by_at None h k = none_some up k
    by_at (Some w) h k = let f : file_at ways at ≡ Some w.file = ap (option_map (λ (w : Way). w.file)) h in grown.files at w.file f ∙ sym f

    by_up : (o : Option (List ℕ)) → file_at ways up ≡ o → is_some o ≡ true → file_at vs at ≡ file_at ways at → o ≡ directory_from m (file_at ways at) → IsWayUp m vs at up
    by_up None h k same leads = absurd (cc)
    by_up (Some id) h k same leads = record {
      listed = ap is_some (grown.files up id h);
      leads = grown.files up id h ∙ leads ∙ ap (directory_from m) (sym same);
    }

-- ## One step up

pub known_above : (m : NodeMap) (ways : List Way) (at up : ℕ) → AreTrue m ways → up_at ways at ≡ Some up → IsAbove m ways at (Some up)
known_above m ways at up own e = let w = own at up e in record { listed = w.listed; leads = w.leads }

kept_file : (old new : List Way) (at : ℕ) → KeepsFiles old new → is_some (file_at old at) ≡ true → file_at new at ≡ file_at old at
kept_file old new at keeps h = by (file_at old at) refl h
  where
    by : (o : Option (List ℕ)) → file_at old at ≡ o → is_some o ≡ true → file_at new at ≡ o
    by None e k = absurd (cc)
    by (Some id) e k = keeps at id e

not_there : (ways : List Way) → AreSole ways → (at goal : ℕ) (file : List ℕ) → is_some (file_at ways at) ≡ true → file_at ways goal ≡ Some file → at ≢ goal → is_the_file file (file_at ways at) ≡ false
not_there ways own at goal file h g other = sym (is_goal ways own at goal file h g) ∙ false_from_ne_true (at == goal) (λ e. other (eqb-true at goal e))

pub at_top : (k : ℕ) (m : NodeMap) (file : List ℕ) (old new : List Way) (at goal : ℕ) → AreSole old → is_some (file_at old at) ≡ true → file_at old goal ≡ Some file → at ≢ goal → KeepsFiles old new → IsAbove m new at None → reaches_from k m file (file_at old at) ≡ false
at_top k m file old new at goal sole h g other keeps above =
    from_top k m file (file_at old at) (not_there old sole at goal file h g other) (above.leads ∙ ap (directory_from m) (kept_file old new at keeps h))

pub one_up : (n i : ℕ) (m : NodeMap) (file : List ℕ) (old new : List Way) (at goal up : ℕ) → i < n → AreSole old → is_some (file_at old at) ≡ true → file_at old goal ≡ Some file → at ≢ goal → KeepsFiles old new → IsAbove m new at (Some up) → reaches_from (n - i) m file (file_at old at) ≡ reaches_from (n - (i + 1)) m file (file_at new up)
one_up n i m file old new at goal up lt sole h g other keeps above =
    from_up n i m file (file_at old at) (file_at new up) lt (not_there old sole at goal file h g other) above.listed (above.leads ∙ ap (directory_from m) (kept_file old new at keeps h))

pub nothing_known : (m : NodeMap) (ways : List Way) → ways ≡ [] → AreTrue m ways
nothing_known m ways e = subst (λ w. AreTrue m w) (sym e) (λ at up h. none_some up h)
