-- What the index tells of the files right below a directory.
use Rattle.std.proofs.Common.{◌≡◌, ◌==◌, ◌∙◌, ◌⊎◌, ◌||◌, ◌∷◌, ℕ, Bool, true, false, List, [], refl, ap, sym, cond, inl, inr, arith}
use Rattle.std.specs.Prelude.{Option, Some, None, Result, Ok, Err, IfOk, ◌&&◌, nat_eq}
use Rattle.std.specs.List.{filter, list_any, cons_option}
use Rattle.std.specs.List.Sorted.{IsStrictlySortedBy}
use Rattle.std.specs.Map.{keys_of}
use Rattle.std.specs.BTreeMap.{BTreeMap}
use Rattle.std.specs.BTreeMap.Range.{entries_between}
use Rattle.std.specs.declared.ops.Bound.TheVariants.{Included, Unbounded}
use Rattle.std.specs.Ordering.{nat_cmp, is_le, ordering_then, ordering_reverse}
use Rattle.std.specs.Cmp.{nat_eq_equiv, nat_cmp_total}
use Rattle.std.specs.Cmp.Lexicographic.{slice_cmp, nat_list_cmp_total, nat_list_eq_equiv}
use Rattle.std.specs.FinMap.{get, entries, get-entries, entries_sorted, is_sorted, nat_cmp-IsAntisymmetric}
use Rattle.std.specs.FinMap.Entries.{below_all}
use Rattle.std.specs.declared.cmp.Ordering.TheVariants.{Less, Equal, Greater}
use Rattle.std.proofs.lemmas.Cmp.{tied_itself}
use Rattle.std.proofs.lemmas.Bool.Decides.{nat_tests}
use Rattle.fs_ident.specs.Ident.{child, same}
use Rattle.fs_ident.specs.In.{In}
use Rattle.fs_ident.specs.Maps.{map_of}
use Rattle.fs_ident.specs.Ordered.{Keyed}
use Rattle.fs_ident.specs.declared.actor.LeaseNo.{LeaseNo}
use Rattle.fs_ident.specs.declared.memory.Memory.{Memory}
use Rattle.fs_ident.proofs.Booleans.{first, second, joined, less, holds}
use Rattle.fs_ident.proofs.MapsOf.{map_of_entries}
use Rattle.fs_ident.proofs.Same.{same_is}
use Rattle.fs_ident.proofs.Standing.{In-filter, any_In}
use Rattle.fs_field.specs.declared.field.Field.{Field}
use Rattle.fs_field.specs.declared.field.Field.TheVariants.{Life, Child, Names, Info, Own, SelfW, Other}
use Rattle.fs_field.specs.declared.row.Row.{Row}
use Rattle.fs_field.specs.Field.{file_of, same_field, same_mode, mode_rank}
use Rattle.fs_field.specs.Table.{same_no, has_no, is_ordered, child_number, borne_numbers}
use Rattle.fs_field.proofs.Below.{only}
use Rattle.fs_field.proofs.SameNo.{same_no_self, same_no_is}
use Rattle.fs_map.specs.Map.{begins}
use Rattle.fs_map.proofs.Found.{In_found, found_In}
use Rattle.fs_map.proofs.Prefixes.{number_is, number_itself, prefix_first}
use Rattle.fs_rows.specs.declared.index.FieldIndex.{FieldIndex}
use Rattle.fs_rows.specs.declared.index.OnFile.{OnFile}
use Rattle.fs_rows.specs.Index.{has_number, listed, numbers_at, numbers_in, numbers_of, same_fact, IsIndexOf}
use Rattle.fs_rows.specs.Borne.{any_has, any_named, is_on, number_told, numbers_below, numbers_from}
use Rattle.fs_rows.proofs.Bearing.{bears, borne_here}
use Rattle.fs_rows.proofs.ByField.{parts}
use Rattle.fs_rows.proofs.Tied.{any_there, told_of}

-- ## What begins with the directory stands together

number_same : (x y : ℕ) → x ≡ y → nat_eq x y ≡ true
number_same x y e = grind (arith, nat_tests)

-- from a prefix on, what comes before an identifier that begins with it begins with it too
between : (p k l : List ℕ) → is_le (slice_cmp nat_cmp p k) ≡ true → slice_cmp nat_cmp k l ≡ Less → begins p l ≡ true → begins p k ≡ true
between [] k l a b h = refl
between (x ∷ p) [] l a b h = absurd (cc)
between (x ∷ p) (y ∷ k) [] a b h = absurd (cc)
between (x ∷ p) (y ∷ k) (z ∷ l) a b h =
    let turned : nat_cmp y z ≡ ordering_reverse (nat_cmp x y) = ap (nat_cmp y) (sym (number_is x z (first _ _ h))) ∙ nat_cmp_total.antisymm y x in
    elim (nat_cmp x y) as (λ r. nat_cmp x y ≡ r → is_le (ordering_then r (slice_cmp nat_cmp p k)) ≡ true → ordering_then (ordering_reverse r) (slice_cmp nat_cmp k l) ≡ Less → begins (x ∷ p) (y ∷ k) ≡ true) [
      | Less ↦ λ e a b. absurd (cc b)
      | Equal ↦ λ e a b. joined _ _ (number_same x y (nat_cmp-IsAntisymmetric x y e)) (between p k l a b (second _ _ h))
      | Greater ↦ λ e a b. absurd (cc a)
    ] refl a (sym (ap (λ r. ordering_then r (slice_cmp nat_cmp k l)) turned) ∙ b)

-- what begins with the prefix comes from it on
from_prefix : (p q : List ℕ) → begins p q ≡ true → is_le (slice_cmp nat_cmp p q) ≡ true
from_prefix p q h = elim (prefix_first p q h) [
  | inl e ↦ ap is_le (ap (slice_cmp nat_cmp p) (sym e) ∙ tied_itself nat_list_cmp_total p)
  | inr l ↦ ap is_le l
]

not_below : (p q : List ℕ) → is_le (slice_cmp nat_cmp p q) ≡ false → begins p q ≡ false
not_below p q a = elim (begins p q) as (λ b. begins p q ≡ b → b ≡ false) [
  | true ↦ λ b. absurd (cc (sym (from_prefix p q b) ∙ a))
  | false ↦ λ b. refl
] refl

-- ## A walk

begins_child : (dir : List ℕ) (k : ℕ) → begins dir (child dir k) ≡ true
begins_child [] k = refl
begins_child (x ∷ dir) k = joined _ _ (number_itself x) (begins_child dir k)

of_both : (b : Bool) (o : Option ℕ) (k : ℕ) → cond b o None ≡ Some k → (b ≡ true) × (o ≡ Some k)
of_both true o k h = (refl, h)
of_both false o k h = absurd (cc)

-- of a file that does not begin with the directory nothing is told
not_told : (dir : List ℕ) (rows : List Row) (e : List ℕ × OnFile) → begins dir e.0 ≡ false → number_told dir rows e ≡ None
not_told dir rows e n = elim (number_told dir rows e) as (λ o. number_told dir rows e ≡ o → o ≡ None) [
  | None ↦ λ t. refl
  | Some k ↦ λ t.
      let below : e.0 ≡ child dir k = only dir e.0 k (of_both (is_on e.1 rows) (child_number dir e.0) k t).1 in
      let wrong : true ≡ false = sym (ap (begins dir) below ∙ begins_child dir k) ∙ n in
      absurd (cc)
] refl

past : (dir : List ℕ) (rows : List Row) (e : List ℕ × OnFile) (es : Keyed OnFile) → begins dir e.0 ≡ false → numbers_below dir rows (e ∷ es) ≡ numbers_below dir rows es
past dir rows e es n = ap (λ o. cons_option o (numbers_below dir rows es)) (not_told dir rows e n)

abbrev from_there : List ℕ → Keyed OnFile → Keyed OnFile
from_there dir es = filter (λ e. is_le (slice_cmp nat_cmp dir e.0) && true) es

none_behind : (dir : List ℕ) (rows : List Row) (k : List ℕ) (es : Keyed OnFile) → is_le (slice_cmp nat_cmp dir k) ≡ true → begins dir k ≡ false → below_all (slice_cmp nat_cmp) k es ≡ true → numbers_below dir rows es ≡ []
none_behind dir rows k [] a n h = refl
none_behind dir rows k (e ∷ es) a n h =
    elim (begins dir e.0) as (λ b. begins dir e.0 ≡ b → numbers_below dir rows (e ∷ es) ≡ []) [
      | true ↦ λ b. absurd (cc (sym (between dir k e.0 a (less _ (first _ _ h)) b) ∙ n))
      | false ↦ λ b. past dir rows e es b ∙ none_behind dir rows k es a n (second _ _ h)
    ] refl

walked : (dir : List ℕ) (rows : List Row) (es : Keyed OnFile) → is_sorted (slice_cmp nat_cmp) es ≡ true → numbers_from dir rows (from_there dir es) ≡ numbers_below dir rows es
walked dir rows [] h = refl
walked dir rows (e ∷ es) h =
    elim (is_le (slice_cmp nat_cmp dir e.0)) as (λ a. is_le (slice_cmp nat_cmp dir e.0) ≡ a → numbers_from dir rows (cond (a && true) (e ∷ from_there dir es) (from_there dir es)) ≡ numbers_below dir rows (e ∷ es)) [
      | true ↦ λ a. elim (begins dir e.0) as (λ b. begins dir e.0 ≡ b → cond b (cons_option (number_told dir rows e) (numbers_from dir rows (from_there dir es))) [] ≡ numbers_below dir rows (e ∷ es)) [
        | true ↦ λ b. ap (λ xs. cons_option (number_told dir rows e) xs) (walked dir rows es (second _ _ h))
        | false ↦ λ b. sym (past dir rows e es b ∙ none_behind dir rows e.0 es a b (first _ _ h))
      ] refl
      | false ↦ λ a. walked dir rows es (second _ _ h) ∙ sym (past dir rows e es (not_below dir e.0 a))
    ] refl

-- a walk from the directory on tells what all files tell
pub told_from : (dir : List ℕ) (rows : List Row) (m : BTreeMap (List ℕ) OnFile) → IsStrictlySortedBy (slice_cmp nat_cmp) (keys_of m.entries)
    → numbers_from dir rows (entries_between (slice_cmp nat_cmp) (Included dir) Unbounded m.entries) ≡ numbers_below dir rows (entries (map_of m))
told_from dir rows m h =
    ap (λ es. numbers_from dir rows (from_there dir es)) (sym (map_of_entries m h))
    ∙ walked dir rows (entries (map_of m)) (holds _ (entries_sorted (map_of m)))

-- ## Which files rows are on

either_true : (a b : Bool) → (a || b) ≡ true → (a ≡ true) ⊎ (b ≡ true)
either_true true b h = inl refl
either_true false b h = inr h

first_or : (a b : Bool) → a ≡ true → (a || b) ≡ true
first_or a b h = ap (λ t. t || b) h

second_or : (a b : Bool) → b ≡ true → (a || b) ≡ true
second_or true b h = refl
second_or false b h = h

-- a number that a row has stands on a field of the file
abbrev IsOnField : OnFile → List ℕ → List Row → Type 0
IsOnField o file rows = (f : Field) × (n : LeaseNo) × ((file_of f ≡ file) × ((has_number n (numbers_in o f) ≡ true) × (list_any (has_no n) rows ≡ true)))

here : (o : OnFile) (file : List ℕ) (rows : List Row) (f : Field) (ns : List LeaseNo) → file_of f ≡ file → numbers_in o f ≡ ns → any_has ns rows ≡ true → IsOnField o file rows
here o file rows f ns e s h =
    let q = any_In (λ n. list_any (has_no n) rows) ns h in
    (f, q.0, (e, (ap (has_number q.0) s ∙ any_there (λ m. same_no m q.0) q.0 ns q.1.0 (same_no_self q.0), q.1.1)))

value_at : {V : Type 0} (m : BTreeMap (List ℕ) V) (e : List ℕ × V) → In e (entries (map_of m)) → get (map_of m) e.0 ≡ Some e.1
value_at m e i = get-entries (map_of m) e.0 ∙ In_found e (entries (map_of m)) (holds _ (entries_sorted (map_of m))) i

entry_at : {V : Type 0} (m : BTreeMap (List ℕ) V) (k : List ℕ) (v : V) → get (map_of m) k ≡ Some v → In (k, v) (entries (map_of m))
entry_at m k v h = found_In k v (entries (map_of m)) (sym (get-entries (map_of m) k) ∙ h)

named_here : (o : OnFile) (file : List ℕ) (rows : List Row) → any_named (entries (map_of o.children)) rows ≡ true → IsOnField o file rows
named_here o file rows h =
    let q = any_In (λ e. any_has e.1 rows) (entries (map_of o.children)) h in
    here o file rows (Child file q.0.0) q.0.1 refl (ap listed (value_at o.children q.0 q.1.0)) q.1.1

field_of : (o : OnFile) (file : List ℕ) (rows : List Row) → is_on o rows ≡ true → IsOnField o file rows
field_of o file rows h = elim (either_true (any_has o.life rows) _ h) [
  | inl a ↦ here o file rows (Life file) o.life refl refl a
  | inr g ↦ elim (either_true (any_has o.names rows) _ g) [
    | inl a ↦ here o file rows (Names file) o.names refl refl a
    | inr g ↦ elim (either_true (any_has o.info rows) _ g) [
      | inl a ↦ here o file rows (Info file) o.info refl refl a
      | inr g ↦ elim (either_true (any_has o.own rows) _ g) [
        | inl a ↦ here o file rows (Own file) o.own refl refl a
        | inr a ↦ named_here o file rows a
      ]
    ]
  ]
]

has_one : (n : LeaseNo) (ns : List LeaseNo) (rows : List Row) → list_any (has_no n) rows ≡ true → has_number n ns ≡ true → any_has ns rows ≡ true
has_one n ns rows h k =
    let q = any_In (λ m. same_no m n) ns k in
    any_there (λ m. list_any (has_no m) rows) q.0 ns q.1.0 (ap (λ m. list_any (has_no m) rows) (same_no_is q.0 n q.1.1) ∙ h)

named_one : (m : BTreeMap (List ℕ) (List LeaseNo)) (name : List ℕ) (n : LeaseNo) (rows : List Row) → list_any (has_no n) rows ≡ true → has_number n (listed (get (map_of m) name)) ≡ true → any_named (entries (map_of m)) rows ≡ true
named_one m name n rows h k = elim (get (map_of m) name) as (λ o. get (map_of m) name ≡ o → has_number n (listed o) ≡ true → any_named (entries (map_of m)) rows ≡ true) [
  | None ↦ λ e g. absurd (cc g)
  | Some ns ↦ λ e g. any_there (λ (x : List ℕ × List LeaseNo). any_has x.1 rows) (name, ns) (entries (map_of m)) (entry_at m name ns e) (has_one n ns rows h g)
] refl k

on_field : (o : OnFile) (f : Field) (n : LeaseNo) (rows : List Row) → list_any (has_no n) rows ≡ true → has_number n (numbers_in o f) ≡ true → is_on o rows ≡ true
on_field o (Life a) n rows h k = first_or (any_has o.life rows) _ (has_one n o.life rows h k)
on_field o (Names a) n rows h k = second_or (any_has o.life rows) _ (first_or (any_has o.names rows) _ (has_one n o.names rows h k))
on_field o (Info a) n rows h k = second_or (any_has o.life rows) _ (second_or (any_has o.names rows) _ (first_or (any_has o.info rows) _ (has_one n o.info rows h k)))
on_field o (Own a) n rows h k = second_or (any_has o.life rows) _ (second_or (any_has o.names rows) _ (second_or (any_has o.info rows) _ (first_or (any_has o.own rows) _ (has_one n o.own rows h k))))
on_field o (Child a name) n rows h k = second_or (any_has o.life rows) _ (second_or (any_has o.names rows) _ (second_or (any_has o.info rows) _ (second_or (any_has o.own rows) _ (named_one o.children name n rows h k))))
on_field o (SelfW a m) n rows h k = absurd (cc k)
on_field o (Other a m) n rows h k = absurd (cc k)

-- ## Numbers that are borne

bears_either : (k : ℕ) (o : Option ℕ) (ns : List ℕ) → bears k (cons_option o ns) ≡ true → (o ≡ Some k) ⊎ (bears k ns ≡ true)
bears_either k None ns h = inr h
bears_either k (Some m) ns h = elim (m == k) as (λ b. (m == k) ≡ b → (b || bears k ns) ≡ true → (Some m ≡ Some k) ⊎ (bears k ns ≡ true)) [
  | true ↦ λ e g. inl (ap (λ z. Some z) (number_is m k e))
  | false ↦ λ e g. inr g
] refl h

bears_behind : (k : ℕ) (o : Option ℕ) (ns : List ℕ) → bears k ns ≡ true → bears k (cons_option o ns) ≡ true
bears_behind k None ns h = h
bears_behind k (Some m) ns h = second_or (m == k) (bears k ns) h

told_entry : (dir : List ℕ) (rows : List Row) (k : ℕ) (es : Keyed OnFile) → bears k (numbers_below dir rows es) ≡ true → (e : List ℕ × OnFile) × (In e es × (number_told dir rows e ≡ Some k))
told_entry dir rows k [] h = absurd (cc)
told_entry dir rows k (e ∷ es) h = elim (bears_either k (number_told dir rows e) (numbers_below dir rows es) h) [
  | inl t ↦ (e, (inl refl, t))
  | inr g ↦ let q = told_entry dir rows k es g in (q.0, (inr q.1.0, q.1.1))
]

entry_told : (dir : List ℕ) (rows : List Row) (k : ℕ) (es : Keyed OnFile) (e : List ℕ × OnFile) → In e es → number_told dir rows e ≡ Some k → bears k (numbers_below dir rows es) ≡ true
entry_told dir rows k [] e i t = absurd i
entry_told dir rows k (x ∷ xs) e i t = elim i [
  | inl q ↦ borne_here k (number_told dir rows x) (numbers_below dir rows xs) (ap (number_told dir rows) (sym q) ∙ t)
  | inr j ↦ bears_behind k (number_told dir rows x) (numbers_below dir rows xs) (entry_told dir rows k xs e j t)
]

told_row : (dir : List ℕ) (k : ℕ) (rows : List Row) → bears k (borne_numbers dir rows) ≡ true → (r : Row) × (In r rows × (child_number dir (file_of r.field) ≡ Some k))
told_row dir k [] h = absurd (cc)
told_row dir k (r ∷ rs) h = elim (bears_either k (child_number dir (file_of r.field)) (borne_numbers dir rs) h) [
  | inl t ↦ (r, (inl refl, t))
  | inr g ↦ let q = told_row dir k rs g in (q.0, (inr q.1.0, q.1.1))
]

row_told : (dir : List ℕ) (k : ℕ) (rows : List Row) (r : Row) → In r rows → child_number dir (file_of r.field) ≡ Some k → bears k (borne_numbers dir rows) ≡ true
row_told dir k [] r i t = absurd i
row_told dir k (x ∷ xs) r i t = elim i [
  | inl q ↦ borne_here k (child_number dir (file_of x.field)) (borne_numbers dir xs) (ap (λ (z : Row). child_number dir (file_of z.field)) (sym q) ∙ t)
  | inr j ↦ bears_behind k (child_number dir (file_of x.field)) (borne_numbers dir xs) (row_told dir k xs r j t)
]

-- ## They are those of the rows

itself : (f : Field) → same_field f f ≡ true
itself (Life a) = nat_list_eq_equiv.refl a
itself (Child a n) = joined (same a a) (same n n) (nat_list_eq_equiv.refl a) (nat_list_eq_equiv.refl n)
itself (Names a) = nat_list_eq_equiv.refl a
itself (Info a) = nat_list_eq_equiv.refl a
itself (Own a) = nat_list_eq_equiv.refl a
itself (SelfW a m) = joined (same a a) (same_mode m m) (nat_list_eq_equiv.refl a) (nat_eq_equiv.refl (mode_rank m))
itself (Other a m) = joined (same a a) (same_mode m m) (nat_list_eq_equiv.refl a) (nat_eq_equiv.refl (mode_rank m))

agree : (a b : Bool) → (a ≡ true → b ≡ true) → (b ≡ true → a ≡ true) → a ≡ b
agree true b f g = sym (f refl)
agree false true f g = g refl
agree false false f g = refl

-- the numbers that the index tells are those of the rows
pub told_below : (index : FieldIndex) (rows : List Row) (live : Row → Bool) → is_ordered rows ≡ true → index.whole ≡ true → IsIndexOf index rows → (dir : List ℕ) (k : ℕ)
    → list_any (λ b. b == k) (numbers_below dir (filter live rows) (entries (map_of index.files))) ≡ list_any (λ b. b == k) (borne_numbers dir (filter live rows))
told_below index rows live o w h dir k = agree _ _ forth back
  where
    forth : bears k (numbers_below dir (filter live rows) (entries (map_of index.files))) ≡ true → bears k (borne_numbers dir (filter live rows)) ≡ true
    forth g =
        let q = told_entry dir (filter live rows) k (entries (map_of index.files)) g in
        let e : List ℕ × OnFile = q.0 in
        let t = of_both (is_on e.1 (filter live rows)) (child_number dir e.0) k q.1.1 in
        let on : IsOnField e.1 e.0 (filter live rows) = field_of e.1 e.0 (filter live rows) t.0 in
        let f : Field = on.0 in
        let n : LeaseNo = on.1 in
        let at : file_of f ≡ e.0 = on.2.0 in
        let r = any_In (has_no n) (filter live rows) on.2.1.1 in
        let numbers : numbers_of index.files f ≡ numbers_in e.1 f = ap (λ z. numbers_at (get (map_of index.files) z) f) at ∙ ap (λ z. numbers_at z f) (value_at index.files e q.1.0) in
        let there : has_number r.0.no (numbers_of index.files f) ≡ true = ap (λ z. has_number z (numbers_of index.files f)) (same_no_is r.0.no n r.1.1) ∙ ap (has_number n) numbers ∙ on.2.1.0 in
        let one : same_field r.0.field f ≡ true = sym (told_of index rows o w h f r.0 (In-filter live r.0 rows r.1.0)) ∙ there in
        let file : file_of r.0.field ≡ e.0 = same_is (file_of r.0.field) (file_of f) (first (same (file_of r.0.field) (file_of f)) (same_fact r.0.field f) (sym (parts r.0.field f) ∙ one)) ∙ at in
        row_told dir k (filter live rows) r.0 r.1.0 (ap (child_number dir) file ∙ t.1)

    back : bears k (borne_numbers dir (filter live rows)) ≡ true → bears k (numbers_below dir (filter live rows) (entries (map_of index.files))) ≡ true
    back g =
        let q = told_row dir k (filter live rows) g in
        let r : Row = q.0 in
        let there : has_number r.no (numbers_of index.files r.field) ≡ true = told_of index rows o w h r.field r (In-filter live r rows q.1.0) ∙ itself r.field in
        let has : list_any (has_no r.no) (filter live rows) ≡ true = any_there (has_no r.no) r (filter live rows) q.1.0 (same_no_self r.no) in
        elim (get (map_of index.files) (file_of r.field)) as (λ o. get (map_of index.files) (file_of r.field) ≡ o → has_number r.no (numbers_at o r.field) ≡ true → bears k (numbers_below dir (filter live rows) (entries (map_of index.files))) ≡ true) [
          | None ↦ λ e g. absurd (cc g)
          | Some on_file ↦ λ e g.
              entry_told dir (filter live rows) k (entries (map_of index.files)) (file_of r.field, on_file) (entry_at index.files (file_of r.field) on_file e)
              (ap (λ b. cond b (child_number dir (file_of r.field)) None) (on_field on_file r.field r.no (filter live rows) has g) ∙ q.1.1)
        ] refl there

-- where there is memory
pub told_ok : (result : Result (List ℕ) Memory) (ns ms : List ℕ) → IfOk result (λ told. told ≡ ns) → ((k : ℕ) → list_any (λ b. b == k) ns ≡ list_any (λ b. b == k) ms) → IfOk result (λ told. (k : ℕ) → list_any (λ b. b == k) told ≡ list_any (λ b. b == k) ms)
told_ok (Ok told) ns ms e h = λ k. ap (λ (numbers : List ℕ). list_any (λ b. b == k) numbers) e ∙ h k
told_ok (Err m) ns ms e h = tt
