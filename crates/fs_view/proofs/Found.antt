-- What leases are found by, as they come, change and go.
use Rattle.std.proofs.Common.{◌≡◌, ◌==◌, ◌<◌, ℕ, ◌&&◌, ◌||◌, Bool, true, false, not, List, [], ◌∷◌, ◌++◌, refl, ap, cond, arith, zero, suc, length, get_or, map, take, ◌+◌, sym, ◌∙◌, subst, inl}
use Rattle.std.specs.Prelude.{Option, Some, None, Result, Ok, Err, OnOk, OnErr, nat_le}
use Rattle.std.specs.List.{AllZip, find, filter, list_any, position, remove}
use Rattle.std.proofs.lemmas.Bool.Decides.{nat_tests}
use Rattle.std.proofs.lemmas.List.{map-append, take_more, take_all}
use Rattle.indexmap.specs.IndexSet.{insert_key}
use Rattle.fs_ident.specs.In.{In}
use Rattle.fs_ident.specs.declared.actor.LeaseNo.{LeaseNo}
use Rattle.fs_ident.specs.declared.actor.Session.{Session}
use Rattle.fs_ident.specs.declared.memory.Memory.{Memory}
use Rattle.fs_field.specs.declared.effect.Effect.{Effect}
use Rattle.fs_field.specs.declared.field.Field.{Field}
use Rattle.fs_field.specs.Table.{same_no}
use Rattle.fs_field.proofs.SameNo.{same_no_is, same_no_symm}
use Rattle.fs_view.specs.declared.change.Change.{Change}
use Rattle.fs_view.specs.declared.index.FieldIndex.{FieldIndex}
use Rattle.fs_view.specs.declared.view_lease.ViewLease.{ViewLease}
use Rattle.fs_view.specs.declared.view_lease.Standing.{Standing}
use Rattle.fs_view.specs.declared.view_lease.Standing.TheVariants.{Held, Pinned, Leaving}
use Rattle.fs_view.specs.declared.key.Key.{Key}
use Rattle.fs_view.specs.declared.new_lease.NewLease.{NewLease}
use Rattle.fs_view.specs.Admit.{knowing_all}
use Rattle.fs_view.specs.Change.{changed}
use Rattle.fs_view.specs.Index.{end_no_sooner, ends_from, is_on, key_in, key_of, least_with, lesser, AreFoundBy, IsAdded, IsChanged, IsIndexOf, IsNoted, IsTakenOff}
use Rattle.fs_view.specs.ViewLease.{has_ended, has_number, is_leaving, is_pinned, number_of}
use Rattle.fs_view.specs.View.{are_distinct, at_number, kept_new}
use Rattle.fs_view.proofs.Bases.{knows, known_distinct}
use Rattle.fs_view.proofs.Changed.{same_number}
use Rattle.fs_view.proofs.Ending.{ends_changed, ends_fewer, ends_kept, ends_more}
use Rattle.fs_view.proofs.Finding.{got_in, removed_at, same_key, within}
use Rattle.fs_view.proofs.Indexing.{added, index_changed, index_gone, index_kept}
use Rattle.fs_view.proofs.Places.{distinct_append, distinct_at, distinct_filter, found_there}

-- ## Nothing changes

pub still_found : (ks new : List ViewLease) (keys more : List Key) (index : FieldIndex) (least : ℕ) → new ≡ ks → more ≡ keys → AreFoundBy ks keys index least → AreFoundBy new more index least
still_found ks new keys more index least e f h = subst (λ xs. AreFoundBy xs more index least) (sym e) (subst (λ ys. AreFoundBy ks ys index least) (sym f) h)

-- ## Keys

keys_kept : (g : ViewLease → ViewLease) (ks : List ViewLease) → ((k : ViewLease) → number_of (g k).standing ≡ number_of k.standing) → map key_in (map g ks) ≡ map key_in ks
keys_kept g [] same = refl
keys_kept g (k ∷ ks) same = ap (λ n. key_of n ∷ map key_in (map g ks)) (same k) ∙ ap (λ rest. key_in k ∷ rest) (keys_kept g ks same)

keys_removed : (ks : List ViewLease) (at : ℕ) → map key_in (remove ks at) ≡ remove (map key_in ks) at
keys_removed [] zero = refl
keys_removed [] (suc at) = refl
keys_removed (k ∷ ks) zero = refl
keys_removed (k ∷ ks) (suc at) = ap (λ rest. key_in k ∷ rest) (keys_removed ks at)

any_key : (n : LeaseNo) (ks : List ViewLease) → list_any (same_key (key_of n)) (map key_in ks) ≡ list_any (has_number n) ks
any_key n [] = refl
any_key n (k ∷ ks) = ap (λ b. b || list_any (same_key (key_of n)) (map key_in ks)) (same_no_symm n (number_of k.standing)) ∙ ap (λ b. has_number n k || b) (any_key n ks)

-- ## A lease changes

found_has : (test : ViewLease → Bool) (ks : List ViewLease) (x : ViewLease) → find test ks ≡ Some x → test x ≡ true
found_has test [] x h = absurd (cc h)
found_has test (k ∷ ks) x h = elim (test k) as (λ b. test k ≡ b → cond b (Some k) (find test ks) ≡ Some x → test x ≡ true) [
  | true ↦ λ t g. let e : k ≡ x = cc g in ap test (sym e) ∙ t
  | false ↦ λ t g. found_has test ks x g
] refl h

number_by : (g : ViewLease → ViewLease) (b : Bool) (k : ViewLease) → number_of (g k).standing ≡ number_of k.standing → number_of (cond b (g k) k).standing ≡ number_of k.standing
number_by g true k e = e
number_by g false k e = refl

pub found_changed :
    (n : LeaseNo) (c : Change) (ks now : List ViewLease) (keys : List Key) (old new : FieldIndex) (least next at : ℕ) (x : ViewLease) → position (has_number n) ks ≡ Some at → x ≡ get_or ks at x
    → IsChanged c x.standing old new → next ≡ least_with c least → now ≡ at_number n (changed c) ks → AreFoundBy ks keys old least → AreFoundBy now keys new next
found_changed n c ks now keys old new least next at x p e t l is h =
    let i = got_in ks at x (within (has_number n) ks at p) e in
    let number : number_of x.standing ≡ n = same_no_is (number_of x.standing) n (found_has (has_number n) ks x (found_there n ks at x p e)) in
    record {
      distinct = ap are_distinct is ∙ distinct_at n (changed c) (same_number c) ks ∙ h.distinct;
      numbers = h.numbers ∙ sym (ap (map key_in) is ∙ keys_kept (λ k. cond (has_number n k) (changed c k) k) ks (λ k. number_by (changed c) (has_number n k) k (same_number c k)));
      fields = subst (IsIndexOf new) (ap (λ m. at_number m (changed c) ks) number ∙ sym is) (index_changed old new c x ks h.distinct i t h.fields);
      ends = ap (λ m. end_no_sooner m now) l ∙ ap (end_no_sooner (least_with c least)) is ∙ ends_changed c n least ks h.ends;
    }

-- ## A lease goes

pub found_gone :
    (ks now : List ViewLease) (keys less : List Key) (old new : FieldIndex) (least at : ℕ) (x : ViewLease) → at < length ks → x ≡ get_or ks at x → is_pinned x.standing ≡ false → IsTakenOff x.standing old new
    → now ≡ remove ks at → less ≡ remove keys at → AreFoundBy ks keys old least → AreFoundBy now less new least
found_gone ks now keys less old new least at x w e p t is gone h =
    let others : List ViewLease → List ViewLease = filter (λ k. not (has_number (number_of x.standing) k)) in
    let same : now ≡ others ks = is ∙ removed_at ks at x w e h.distinct in
    record {
      distinct = ap are_distinct same ∙ distinct_filter (λ k. not (has_number (number_of x.standing) k)) ks h.distinct;
      numbers = gone ∙ ap (λ ys. remove ys at) h.numbers ∙ sym (ap (map key_in) is ∙ keys_removed ks at);
      fields = subst (IsIndexOf new) (sym same) (index_gone old new x x.standing ks refl p h.distinct (got_in ks at x w e) t h.fields);
      ends = ap (end_no_sooner least) same ∙ ends_fewer least (λ k. not (has_number (number_of x.standing) k)) ks h.ends;
    }

pub leaving_off : (s : Standing) (index : FieldIndex) → is_leaving s ≡ true → IsTakenOff s index index
leaving_off (Held l) index h = absurd (cc h)
leaving_off (Pinned u) index h = refl
leaving_off (Leaving l) index h = refl

pub leaving_free : (s : Standing) → is_leaving s ≡ true → is_pinned s ≡ false
leaving_free (Held l) h = refl
leaving_free (Pinned u) h = absurd (cc h)
leaving_free (Leaving l) h = refl

pub ended_free : (now : ℕ) (s : Standing) → has_ended now s ≡ true → is_pinned s ≡ false
ended_free now (Held l) h = refl
ended_free now (Pinned u) h = absurd (cc h)
ended_free now (Leaving l) h = refl

-- another end that none is over before
pub found_from : (ks : List ViewLease) (keys : List Key) (index : FieldIndex) (least next : ℕ) → end_no_sooner next ks ≡ true → AreFoundBy ks keys index least → AreFoundBy ks keys index next
found_from ks keys index least next e h = record { distinct = h.distinct; numbers = h.numbers; fields = h.fields; ends = e }

-- ## A lease comes

itself : (n : ℕ) → nat_le n n ≡ true
itself n = grind (arith, nat_tests)

pub found_added :
    (l : NewLease) (ks now : List ViewLease) (keys more : List Key) (old new : FieldIndex) (least next : ℕ) → list_any (has_number l.no) ks ≡ false → more ≡ insert_key same_key keys (key_of l.no)
    → IsNoted l.no l.field old new → next ≡ lesser least l.until → now ≡ ks ++ kept_new l ∷ [] → AreFoundBy ks keys old least → AreFoundBy now more new next
found_added l ks now keys more old new least next n m t e is h = record {
  distinct = ap are_distinct is ∙ distinct_append ks (kept_new l) n h.distinct;
  numbers =
      m ∙ ap (λ ys. insert_key same_key ys (key_of l.no)) h.numbers
      ∙ ap (λ b. cond b (map key_in ks) (map key_in ks ++ key_of l.no ∷ [])) (any_key l.no ks ∙ n)
      ∙ sym (ap (map key_in) is ∙ map-append key_in ks (kept_new l ∷ []));
  fields = subst (IsIndexOf new) (sym is) (added old new ks (kept_new l) (kept_new l).standing refl t h.fields);
  ends = ap (λ a. end_no_sooner a now) e ∙ ap (end_no_sooner (lesser least l.until)) is ∙ ends_more least l.until ks (kept_new l) h.ends (itself l.until);
}

-- one more of a list's leases is in the index
pub index_more : (old new : FieldIndex) (ks : List ViewLease) (i : ℕ) (x : ViewLease) → i < length ks → x ≡ get_or ks i x → IsAdded x.standing old new → IsIndexOf old (take i ks) → IsIndexOf new (take (i + 1) ks)
index_more old new ks i x h e a is = subst (IsIndexOf new) (sym (take_more ks i x h ∙ ap (λ (y : ViewLease). take i ks ++ y ∷ []) (sym e))) (added old new (take i ks) x x.standing refl a is)

-- ## Base values change

abbrev known : Session → List (List Effect) → ViewLease → ViewLease
known s log k = knowing_all s log k

same_standing : (s : Session) (log : List (List Effect)) (k : ViewLease) → (known s log k).standing ≡ k.standing
same_standing s log k = ap (λ (x : ViewLease). x.standing) (knows s log k.standing k.base k.recalled k.below)

pub known_found : (s : Session) (log : List (List Effect)) (ks now : List ViewLease) (keys : List Key) (index : FieldIndex) (least : ℕ) → now ≡ map (knowing_all s log) ks → AreFoundBy ks keys index least → AreFoundBy now keys index least
known_found s log ks now keys index least is h = record {
  distinct = known_distinct s log ks now is h.distinct;
  numbers = h.numbers ∙ sym (ap (map key_in) is ∙ keys_kept (known s log) ks (λ k. ap number_of (same_standing s log k)));
  fields = subst (IsIndexOf index) (sym is) (index_kept index (known s log) ks (λ f k i. ap (is_on f) (same_standing s log k)) (λ k. ap number_of (same_standing s log k)) h.fields);
  ends = ap (end_no_sooner least) is ∙ ends_kept least (known s log) ks (λ k e. ap (ends_from least) (same_standing s log k) ∙ e) h.ends;
}

-- whether there was memory or not
pub found_known : (r : Result (Unit {0}) Memory) (s : Session) (log : List (List Effect)) (ks now : List ViewLease) (keys : List Key) (index : FieldIndex) (least : ℕ) → OnOk r (now ≡ map (knowing_all s log) ks) → OnErr r (now ≡ ks) → AreFoundBy ks keys index least → AreFoundBy now keys index least
found_known (Ok u) s log ks now keys index least p q h = known_found s log ks now keys index least p h
found_known (Err m) s log ks now keys index least p q h = still_found ks now keys keys index least q refl h

-- ## The same keys again

pub copied : (keys twin : List Key) → AllZip (λ x y. y ≡ x) keys twin → twin ≡ keys
copied [] [] z = refl
copied [] (y ∷ ys) z = absurd z
copied (x ∷ xs) [] z = absurd z
copied (x ∷ xs) (y ∷ ys) z = ap (λ k. k ∷ ys) z.0 ∙ ap (λ ks. x ∷ ks) (copied xs ys z.1)

pub found_again : (ks now : List ViewLease) (keys twin : List Key) (old new : FieldIndex) (least : ℕ) → now ≡ ks → AllZip (λ x y. y ≡ x) keys twin → IsIndexOf new now → AreFoundBy ks keys old least → AreFoundBy now twin new least
found_again ks now keys twin old new least e z i h = record {
  distinct = ap are_distinct e ∙ h.distinct;
  numbers = copied keys twin z ∙ h.numbers ∙ ap (map key_in) (sym e);
  fields = i;
  ends = ap (end_no_sooner least) e ∙ h.ends;
}
