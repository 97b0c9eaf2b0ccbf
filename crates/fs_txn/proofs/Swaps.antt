-- Two effects, in either order.
use Rattle.std.proofs.Common.{◌≡◌, ℕ, Bool, true, false, List, refl, ap, sym, ◌∙◌, cond, not}
use Rattle.std.specs.Prelude.{◌≢◌, Option, Some, None, IfSome, T}
use Rattle.std.specs.Ordering.{nat_cmp, eq_by_cmp}
use Rattle.std.specs.declared.cmp.Ordering.TheVariants.{Equal}
use Rattle.std.specs.Cmp.Lexicographic.{slice_cmp, nat_list_cmp_total}
use Rattle.std.specs.FinMap.{get, same_map}
use Rattle.std.specs.FinMap.Entries.{find, find-put, find-where_key, is_sorted, is_sorted-put, is_sorted-where_key, same_entries}
use Rattle.fs_field.specs.After.{changed_file}
use Rattle.fs_field.specs.declared.effect.Effect.{Effect}
use Rattle.fs_field.specs.declared.effect.Effect.TheVariants.{SetChild, SetParent, NewNode, RemoveNode, AddHandle, RemoveHandle, SetInfo}
use Rattle.fs_ident.proofs.Booleans.{held}
use Rattle.fs_ident.proofs.MapsOf.{anti}
use Rattle.fs_model.proofs.SoundMaps.{same_self}
use Rattle.fs_model.specs.Children.{Children, with_child, without_child}
use Rattle.fs_record.specs.declared.record.Record.{Record}
use Rattle.fs_record.specs.Applied.{record_change, records_after, with_at}
use Rattle.fs_record.specs.Records.{AreRecords, IsRecord, RecordMap}
use Rattle.fs_record.proofs.Kept.{get_with_at}
use Rattle.fs_record.proofs.NodeValues.{key_is}
use Rattle.fs_record.proofs.Undoing.{get_here, with_at-with_at}
use Rattle.fs_txn.specs.Decided.{ChangesOther, IsApart, IsDecided}

abbrev tied : List ℕ → List ℕ → Bool
tied a b = eq_by_cmp (slice_cmp nat_cmp) a b

-- ## Two places

both_places : {X : Type 0} (a b : Bool) (x y z : Option X) → (a ≡ true → b ≡ true → ⊥) → cond a x (cond b y z) ≡ cond b y (cond a x z)
both_places true true x y z h = absurd (h refl refl)
both_places true false x y z h = refl
both_places false b x y z h = refl

at_swap : (m : RecordMap) (f g : List ℕ) (o p : Option Record) → (f ≡ g → ⊥) → with_at (with_at m f o) g p ≡ with_at (with_at m g p) f o
at_swap m f g o p h = same_map nat_list_cmp_total anti _ _ (λ q.
    get_with_at (with_at m f o) g p q
    ∙ ap (cond (tied q g) p) (get_with_at m f o q)
    ∙ both_places (tied q g) (tied q f) p o (get m q) (λ a b. h (sym (key_is q f b) ∙ key_is q g a))
    ∙ sym (get_with_at (with_at m g p) f o q ∙ ap (cond (tied q f) o) (get_with_at m g p q)))

get_there : (m : RecordMap) (k q : List ℕ) (x : Option Record) → (q ≡ k → ⊥) → get (with_at m k x) q ≡ get m q
get_there m k q x h = get_with_at m k x q ∙ ap (λ b. cond b x (get m q)) (off (tied q k) refl) where
  off : (b : Bool) → tied q k ≡ b → b ≡ false
  off true t = absurd (h (key_is q k t))
  off false t = refl

-- ## Names

other_key : (name q x : List ℕ) → slice_cmp nat_cmp q x ≡ Equal → not (tied name x) ≡ not (tied name q)
other_key name q x t = ap (λ z. not (tied name z)) (sym (anti q x t))

without_is : (cs : Children) (n q : List ℕ) → find (slice_cmp nat_cmp) q (without_child cs n) ≡ cond (not (tied n q)) (find (slice_cmp nat_cmp) q cs) None
without_is cs n q = find-where_key (slice_cmp nat_cmp) (λ other. not (tied n other)) q (other_key n q) cs

sorted_without : (cs : Children) (n : List ℕ) → T (is_sorted (slice_cmp nat_cmp) cs) → T (is_sorted (slice_cmp nat_cmp) (without_child cs n))
sorted_without cs n s = is_sorted-where_key (slice_cmp nat_cmp) (λ other. not (tied n other)) cs s

sorted_put : (cs : Children) (n f : List ℕ) → T (is_sorted (slice_cmp nat_cmp) cs) → T (is_sorted (slice_cmp nat_cmp) (with_child cs n f))
sorted_put cs n f s = is_sorted-put (slice_cmp nat_cmp) nat_list_cmp_total n f cs s

both_gone : {X : Type 0} (a b : Bool) (x : Option X) → cond a (cond b x None) None ≡ cond b (cond a x None) None
both_gone true true x = refl
both_gone true false x = refl
both_gone false true x = refl
both_gone false false x = refl

put_and_gone : {X : Type 0} (a b : Bool) (x y : Option X) → (a ≡ true → b ≡ true → ⊥) → cond (not a) (cond b y x) None ≡ cond b y (cond (not a) x None)
put_and_gone true true x y h = absurd (h refl refl)
put_and_gone true false x y h = refl
put_and_gone false b x y h = refl

without_both : (cs : Children) (n m : List ℕ) → T (is_sorted (slice_cmp nat_cmp) cs) → without_child (without_child cs m) n ≡ without_child (without_child cs n) m
without_both cs n m s = same_entries (slice_cmp nat_cmp) nat_list_cmp_total anti _ _ (sorted_without (without_child cs m) n (sorted_without cs m s)) (sorted_without (without_child cs n) m (sorted_without cs n s)) (λ q.
    without_is (without_child cs m) n q
    ∙ ap (λ o. cond (not (tied n q)) o None) (without_is cs m q)
    ∙ both_gone (not (tied n q)) (not (tied m q)) (find (slice_cmp nat_cmp) q cs)
    ∙ sym (without_is (without_child cs n) m q ∙ ap (λ o. cond (not (tied m q)) o None) (without_is cs n q)))

put_then_gone : (cs : Children) (n m f : List ℕ) → n ≢ m → T (is_sorted (slice_cmp nat_cmp) cs) → without_child (with_child cs m f) n ≡ with_child (without_child cs n) m f
put_then_gone cs n m f h s = same_entries (slice_cmp nat_cmp) nat_list_cmp_total anti _ _ (sorted_without (with_child cs m f) n (sorted_put cs m f s)) (sorted_put (without_child cs n) m f (sorted_without cs n s)) (λ q.
    without_is (with_child cs m f) n q
    ∙ ap (λ o. cond (not (tied n q)) o None) (find-put (slice_cmp nat_cmp) nat_list_cmp_total q m f cs)
    ∙ put_and_gone (tied n q) (tied q m) (find (slice_cmp nat_cmp) q cs) (Some f) (λ a b. h (key_is n q a ∙ key_is q m b))
    ∙ sym (find-put (slice_cmp nat_cmp) nat_list_cmp_total q m f (without_child cs n) ∙ ap (cond (tied q m) (Some f)) (without_is cs n q)))

-- ## One record

-- effects on one record that change different things go past each other
in_record : (d e : Effect) → IsDecided d → ChangesOther d e → (o : Option Record) → IfSome o IsRecord → record_change d (record_change e o) ≡ record_change e (record_change d o)
in_record (SetChild d n None) (SetChild x m None) k h None s = refl
in_record (SetChild d n None) (SetChild x m None) k h (Some r) s = ap (λ (cs : Children). Some (record r { node = record (r.node) { children = cs } })) (without_both r.node.children n m (held (is_sorted (slice_cmp nat_cmp) r.node.children) (s.in_order).children))
in_record (SetChild d n None) (SetChild x m (Some f)) k h None s = refl
in_record (SetChild d n None) (SetChild x m (Some f)) k h (Some r) s = ap (λ (cs : Children). Some (record r { node = record (r.node) { children = cs } })) (put_then_gone r.node.children n m f h (held (is_sorted (slice_cmp nat_cmp) r.node.children) (s.in_order).children))
in_record (SetChild d n None) (SetParent f x m) k h None s = refl
in_record (SetChild d n None) (SetParent f x m) k h (Some r) s = refl
in_record (SetChild d n None) (AddHandle f x y z) k h None s = refl
in_record (SetChild d n None) (AddHandle f x y z) k h (Some r) s = refl
in_record (SetChild d n None) (RemoveHandle f x y) k h None s = refl
in_record (SetChild d n None) (RemoveHandle f x y) k h (Some r) s = refl
in_record (SetChild d n None) (SetInfo f x y) k h None s = refl
in_record (SetChild d n None) (SetInfo f x y) k h (Some r) s = refl
in_record (SetChild d n None) (NewNode f x y z) k h o s = absurd h
in_record (SetChild d n None) (RemoveNode f) k h o s = absurd h
in_record (SetChild d n (Some x)) e k h o s = absurd k
in_record (SetParent f d n) (SetChild x m None) k h None s = refl
in_record (SetParent f d n) (SetChild x m None) k h (Some r) s = refl
in_record (SetParent f d n) (SetChild x m (Some g)) k h None s = refl
in_record (SetParent f d n) (SetChild x m (Some g)) k h (Some r) s = refl
in_record (SetParent f d n) (AddHandle g x y z) k h None s = refl
in_record (SetParent f d n) (AddHandle g x y z) k h (Some r) s = refl
in_record (SetParent f d n) (RemoveHandle g x y) k h None s = refl
in_record (SetParent f d n) (RemoveHandle g x y) k h (Some r) s = refl
in_record (SetParent f d n) (SetInfo g x y) k h None s = refl
in_record (SetParent f d n) (SetInfo g x y) k h (Some r) s = refl
in_record (SetParent f d n) (SetParent g x m) k h o s = absurd h
in_record (SetParent f d n) (NewNode g x y z) k h o s = absurd h
in_record (SetParent f d n) (RemoveNode g) k h o s = absurd h
in_record (RemoveNode f) e k h o s = absurd h
in_record (NewNode f x y z) e k h o s = absurd k
in_record (AddHandle f x y z) e k h o s = absurd k
in_record (RemoveHandle f x y) e k h o s = absurd k
in_record (SetInfo f x y) e k h o s = absurd k

-- ## All records

on_one : (m : RecordMap) (f : List ℕ) (d e : Effect) → record_change d (record_change e (get m f)) ≡ record_change e (record_change d (get m f)) → with_at (with_at m f (record_change e (get m f))) f (record_change d (get (with_at m f (record_change e (get m f))) f)) ≡ with_at (with_at m f (record_change d (get m f))) f (record_change e (get (with_at m f (record_change d (get m f))) f))
on_one m f d e one =
    let o = get m f in
    ap (λ p. with_at (with_at m f (record_change e o)) f (record_change d p)) (get_here m f (record_change e o))
    ∙ with_at-with_at m f (record_change e o) (record_change d (record_change e o))
    ∙ ap (with_at m f) one
    ∙ sym (ap (λ p. with_at (with_at m f (record_change d o)) f (record_change e p)) (get_here m f (record_change d o)) ∙ with_at-with_at m f (record_change d o) (record_change e (record_change d o)))

on_two : (m : RecordMap) (d e : Effect) → (changed_file d ≡ changed_file e → ⊥) → records_after (records_after m e) d ≡ records_after (records_after m d) e
on_two m d e h =
    let f = changed_file d in
    let g = changed_file e in
    ap (λ o. with_at (records_after m e) f (record_change d o)) (get_there m g f (record_change e (get m g)) h)
    ∙ at_swap m g f (record_change e (get m g)) (record_change d (get m f)) (λ q. h (sym q))
    ∙ sym (ap (λ o. with_at (records_after m d) g (record_change e o)) (get_there m f g (record_change d (get m f)) (λ q. h (sym q))))

-- effects that go past each other on the one record that both change do so on all
pub past_by : (m : RecordMap) (d e : Effect) → (changed_file d ≡ changed_file e → record_change d (record_change e (get m (changed_file d))) ≡ record_change e (record_change d (get m (changed_file d)))) → records_after (records_after m e) d ≡ records_after (records_after m d) e
past_by m d e one = elim (tied (changed_file d) (changed_file e)) as (λ b. tied (changed_file d) (changed_file e) ≡ b → records_after (records_after m e) d ≡ records_after (records_after m d) e) [
  | true ↦ λ t.
      let q : changed_file d ≡ changed_file e = key_is (changed_file d) (changed_file e) t in
      ap (λ g. with_at (with_at m g (record_change e (get m g))) (changed_file d) (record_change d (get (with_at m g (record_change e (get m g))) (changed_file d)))) (sym q)
      ∙ on_one m (changed_file d) d e (one q)
      ∙ ap (λ g. with_at (with_at m (changed_file d) (record_change d (get m (changed_file d)))) g (record_change e (get (with_at m (changed_file d) (record_change d (get m (changed_file d)))) g))) q
  | false ↦ λ t. on_two m d e (λ q. let wrong : true ≡ false = sym (same_self (changed_file d)) ∙ ap (tied (changed_file d)) q ∙ t in absurd (cc wrong))
] refl

pub goes_past : (m : RecordMap) (d e : Effect) → IsDecided d → IsApart d e → AreRecords m → records_after (records_after m e) d ≡ records_after (records_after m d) e
goes_past m d e k apart s = past_by m d e (λ q. in_record d e k (apart q) (get m (changed_file d)) (s (changed_file d)))
