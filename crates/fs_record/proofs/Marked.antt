-- What keeps the open files marked.
use Rattle.std.proofs.Common.{◌≡◌, ◌⊎◌, inl, inr, ◌∙◌, ◌+◌, ℕ, List, [], ◌∷◌, ◌++◌, Bool, true, false, refl, sym, ap, ap₂, subst, cond, map}
use Rattle.std.specs.Prelude.{Option, Some, None, is_some, not, ◌||◌, ◌&&◌, T, option_map, Result, Ok, Err, OnOk, OnErr}
use Rattle.std.specs.List.{filter, list_any}
use Rattle.std.specs.Map.{keys_of}
use Rattle.std.specs.Ordering.{nat_cmp, eq_by_cmp, is_lt}
use Rattle.std.specs.Cmp.{eq_by_cmp_equiv}
use Rattle.std.specs.Cmp.Lexicographic.{slice_cmp, nat_list_cmp_total}
use Rattle.std.specs.FinMap.{FinMap, empty, get, insert, remove, entries, keys, find, get-empty, get-insert, get-remove, get-entries, entries_sorted, is_sorted}
use Rattle.std.specs.FinMap.Entries.{below_all, same_entries, find-where_key, is_sorted-where_key}
use Rattle.fs_ident.specs.In.{In}
use Rattle.fs_ident.specs.Ordered.{Keyed}
use Rattle.fs_ident.proofs.Booleans.{equal_is}
use Rattle.fs_ident.proofs.MapsOf.{anti}
use Rattle.fs_field.specs.After.{changed_file}
use Rattle.fs_field.specs.declared.effect.Effect.{Effect}
use Rattle.fs_field.specs.declared.effect.Effect.TheVariants.{SetChild, SetParent, NewNode, RemoveNode, AddHandle, RemoveHandle, SetInfo}
use Rattle.fs_model.specs.declared.node.Node.{Node}
use Rattle.fs_model.specs.declared.node.Handle.{Handle}
use Rattle.fs_model.specs.Handles.{is_at}
use Rattle.fs_model.specs.Step.{is_empty}
use Rattle.fs_record.specs.declared.record.Record.{Record}
use Rattle.fs_record.specs.declared.marks.Mark.{Mark}
use Rattle.fs_record.specs.Applied.{node_change, record_change, records_after, records_after_all, takes_away}
use Rattle.fs_record.specs.Fresh.{records_after_gift, with_next}
use Rattle.fs_record.specs.Marks.{Marks, mark, is_open_at, MarkOpen, settled, AreBetween, AreMarked, opens, open_among, changed_files, opened_by}
use Rattle.fs_record.specs.Moving.{are_absent, records_without, with_records}
use Rattle.fs_record.specs.Opens.{is_open, open_files}
use Rattle.fs_record.specs.Records.{RecordMap, node_of, next_of}
use Rattle.fs_record.proofs.Kept.{get_with_at}
use Rattle.fs_record.proofs.TakenOut.{without_at, absent_one, came_beside}

abbrev same : List ℕ → List ℕ → Bool
same x y = eq_by_cmp (slice_cmp nat_cmp) x y

same_is : (x y : List ℕ) → same x y ≡ true → x ≡ y
same_is x y e = anti x y (equal_is _ e)

either : (x y : List ℕ) → (x ≡ y) ⊎ (same x y ≡ false)
either x y = by (same x y) refl
  where
    by : (b : Bool) → same x y ≡ b → (x ≡ y) ⊎ (same x y ≡ false)
    by true e = inl (same_is x y e)
    by false e = inr e

same_self : (x : List ℕ) → same x x ≡ true
same_self x = (eq_by_cmp_equiv nat_list_cmp_total).refl x

apart : (x y : List ℕ) → same x y ≡ false → x ≡ y → ⊥
apart x y e s = let t : same x y ≡ true = ap (same x) (sym s) ∙ same_self x in let q : true ≡ false = sym t ∙ e in absurd (cc q)

-- a file is one of these, or is not
pub one_of : (f : List ℕ) (files : List (List ℕ)) → In f files ⊎ (In f files → ⊥)
one_of f [] = inr (λ i. i)
one_of f (g ∷ files) = by (either f g) (one_of f files)
  where
    by : (f ≡ g) ⊎ (same f g ≡ false) → In f files ⊎ (In f files → ⊥) → In f (g ∷ files) ⊎ (In f (g ∷ files) → ⊥)
    by (inl e) r = inl (inl e)
    by (inr e) (inl i) = inl (inr i)
    by (inr e) (inr n) = inr (λ i. elim i as (λ _. ⊥) [ inl s ↦ apart f g e s | inr j ↦ n j ])

marked_here : (marks : Marks) (f : List ℕ) → is_some (get (insert marks f mark) f) ≡ true
marked_here marks f = ap is_some (get-insert nat_list_cmp_total marks f mark f ∙ ap (λ b. cond b (Some mark) (get marks f)) (same_self f))

insert_beside : {X : Type 0} (m : FinMap (slice_cmp nat_cmp) X) (f k : List ℕ) (v : X) → same k f ≡ false → get (insert m f v) k ≡ get m k
insert_beside m f k v e = get-insert nat_list_cmp_total m f v k ∙ ap (λ b. cond b (Some v) (get m k)) e

remove_beside : {X : Type 0} (m : FinMap (slice_cmp nat_cmp) X) (f k : List ℕ) → same k f ≡ false → get (remove m f) k ≡ get m k
remove_beside m f k e = get-remove nat_list_cmp_total m f k ∙ ap (λ b. cond b None (get m k)) e

remove_here : {X : Type 0} (m : FinMap (slice_cmp nat_cmp) X) (f : List ℕ) → get (remove m f) f ≡ None
remove_here m f = get-remove nat_list_cmp_total m f f ∙ ap (λ b. cond b None (get m f)) (same_self f)

no_none : {X P : Type 0} (o : Option X) → o ≡ None → is_some o ≡ true → P
no_none o e h = let q : false ≡ true = sym (ap is_some e) ∙ h in absurd (cc q)

-- ## Marks

pub between_same : (marks : Marks) (files : List (List ℕ)) → AreBetween marks marks files
between_same marks files = record { still = λ f h. h; only = λ f h. inl h }

pub between_marked : (marks : Marks) (file : List ℕ) → AreBetween marks (insert marks file mark) (file ∷ [])
between_marked marks file = record {
  still = λ f h. elim (either f file) as (λ _. is_some (get (insert marks file mark) f) ≡ true) [
    | inl e ↦ subst (λ k. is_some (get (insert marks file mark) k) ≡ true) (sym e) (marked_here marks file)
    | inr e ↦ ap is_some (insert_beside marks file f mark e) ∙ h
  ];
  only = λ f h. elim (either f file) as (λ _. (is_some (get marks f) ≡ true) ⊎ In f (file ∷ [])) [
    | inl e ↦ inr (inl e)
    | inr e ↦ inl (ap is_some (sym (insert_beside marks file f mark e)) ∙ h)
  ];
}

In_more : (f : List ℕ) (a b : List (List ℕ)) → In f a ⊎ In f b → In f (a ++ b)
In_more f [] b (inl i) = absurd i
In_more f [] b (inr i) = i
In_more f (g ∷ a) b (inl (inl e)) = inl e
In_more f (g ∷ a) b (inl (inr i)) = inr (In_more f a b (inl i))
In_more f (g ∷ a) b (inr i) = inr (In_more f a b (inr i))

pub between_more : (p q r : Marks) (a b : List (List ℕ)) → AreBetween p q a → AreBetween q r b → AreBetween p r (a ++ b)
between_more p q r a b x y = record {
  still = λ f h. y.still f (x.still f h);
  only = λ f h. elim (y.only f h) as (λ _. (is_some (get p f) ≡ true) ⊎ In f (a ++ b)) [
    | inl i ↦ elim (x.only f i) as (λ _. (is_some (get p f) ≡ true) ⊎ In f (a ++ b)) [ inl j ↦ inl j | inr j ↦ inr (In_more f a b (inl j)) ]
    | inr i ↦ inr (In_more f a b (inr i))
  ];
}

pub settled_open : (file : List ℕ) (files : List (List ℕ)) (marks : Marks) (m : RecordMap) → MarkOpen (file ∷ files) marks m → MarkOpen files (settled m marks file) m
settled_open file files marks m own = by (is_open_at m file) refl
  where
    beside : (b : Bool) → is_open_at m file ≡ b → (f : List ℕ) → (is_open_at m f ≡ true) ⊎ In f (file ∷ files) → (f ≡ file → is_open_at m file ≡ true) → (is_open_at m f ≡ true) ⊎ In f files
    beside b e f (inl h) k = inl h
    beside b e f (inr (inl s)) k = inl (ap (is_open_at m) s ∙ k s)
    beside b e f (inr (inr i)) k = inr i

    by : (b : Bool) → is_open_at m file ≡ b → MarkOpen files (cond b marks (remove marks file)) m
    by true e = record { all = own.all; alone = λ f h. beside true e f (own.alone f h) (λ _. e) }
    by false e = record {
      all = λ f h. elim (either f file) as (λ _. is_some (get (remove marks file) f) ≡ true) [
        | inl s ↦ let q : false ≡ true = sym e ∙ ap (is_open_at m) (sym s) ∙ h in absurd (cc q)
        | inr s ↦ ap is_some (remove_beside marks file f s) ∙ own.all f h
      ];
      alone = λ f h. elim (either f file) as (λ _. (is_open_at m f ≡ true) ⊎ In f files) [
        | inl s ↦ no_none (get (remove marks file) f) (ap (get (remove marks file)) s ∙ remove_here marks file) h
        | inr s ↦ beside false e f (own.alone f (ap is_some (sym (remove_beside marks file f s)) ∙ h)) (λ t. absurd (apart f file s t))
      ];
    }

-- after a change of the records of these files, for which they were marked before
pub changed_marks : (files : List (List ℕ)) (p q : Marks) (m n : RecordMap) → MarkOpen [] p m → AreBetween p q files → ((f : List ℕ) → (In f files → ⊥) → is_open_at n f ≡ is_open_at m f) → ((f : List ℕ) → In f files → is_open_at n f ≡ true → is_some (get q f) ≡ true) → MarkOpen files q n
changed_marks files p q m n own between beside opened = record {
  all = λ f h. elim (one_of f files) as (λ _. is_some (get q f) ≡ true) [
    | inl i ↦ opened f i h
    | inr i ↦ between.still f (own.all f (sym (beside f i) ∙ h))
  ];
  alone = λ f h. elim (one_of f files) as (λ _. (is_open_at n f ≡ true) ⊎ In f files) [
    | inl i ↦ inr i
    | inr i ↦ inl (by f i (between.only f h))
  ];
}
  where
    was : (f : List ℕ) → (is_open_at m f ≡ true) ⊎ In f [] → is_open_at m f ≡ true
    was f (inl e) = e
    was f (inr i) = absurd i

    by : (f : List ℕ) → (In f files → ⊥) → (is_some (get p f) ≡ true) ⊎ In f files → is_open_at n f ≡ true
    by f i (inl h) = beside f i ∙ was f (own.alone f h)
    by f i (inr j) = absurd (i j)

-- records that are open as before
pub same_marks : (marks : Marks) (files : List (List ℕ)) (m n : RecordMap) → ((f : List ℕ) → is_open_at n f ≡ is_open_at m f) → MarkOpen files marks m → MarkOpen files marks n
same_marks marks files m n h own = record {
  all = λ f e. own.all f (sym (h f) ∙ e);
  alone = λ f e. elim (own.alone f e) as (λ _. (is_open_at n f ≡ true) ⊎ In f files) [ inl i ↦ inl (h f ∙ i) | inr i ↦ inr i ];
}

-- marks that were to be and were not
pub vain_marks : (files : List (List ℕ)) (p q : Marks) (m : RecordMap) → MarkOpen [] p m → AreBetween p q files → MarkOpen files q m
vain_marks files p q m own between = changed_marks files p q m m own between (λ f i. refl) (λ f i h. between.still f (own.all f h))

-- ## Effects

filter_any : {X : Type 0} (p : X → Bool) (xs : List X) → is_empty xs ≡ true → is_empty (filter p xs) ≡ true
filter_any p [] e = refl
filter_any p (x ∷ xs) e = absurd (cc)

closed_stays : (e : Effect) (o : Option Node) → opens e ≡ false → is_open o ≡ false → is_open (node_change e o) ≡ false
closed_stays (SetChild dir name None) None h k = refl
closed_stays (SetChild dir name None) (Some n) h k = k
closed_stays (SetChild dir name (Some file)) None h k = refl
closed_stays (SetChild dir name (Some file)) (Some n) h k = k
closed_stays (SetParent file dir name) None h k = refl
closed_stays (SetParent file dir name) (Some n) h k = k
closed_stays (NewNode file kind dir name) o h k = refl
closed_stays (RemoveNode file) o h k = refl
closed_stays (AddHandle file session number modes) o h k = absurd (cc)
closed_stays (RemoveHandle file session number) None h k = refl
closed_stays (RemoveHandle file session number) (Some n) h k = by (is_empty n.handles) refl k
  where
    by : (b : Bool) → is_empty n.handles ≡ b → not b ≡ false → not (is_empty (filter (λ (x : Handle). not (is_at session number x)) n.handles)) ≡ false
    by true e _ = ap not (filter_any (λ (x : Handle). not (is_at session number x)) n.handles e)
    by false e z = absurd (cc)
closed_stays (SetInfo file size stamp) None h k = refl
closed_stays (SetInfo file size stamp) (Some n) h k = k

node_changed : (e : Effect) (o : Option Record) → node_of (record_change e o) ≡ node_change e (node_of o)
node_changed e o = by (node_change e (node_of o))
  where
    by : (p : Option Node) → node_of (option_map (λ n. record { node = n; next = next_of o }) p) ≡ p
    by None = refl
    by (Some n) = refl

after_beside : (m : RecordMap) (e : Effect) (f : List ℕ) → same f (changed_file e) ≡ false → is_open_at (records_after m e) f ≡ is_open_at m f
after_beside m e f h = ap (λ o. is_open (node_of o)) (get_with_at m (changed_file e) (record_change e (get m (changed_file e))) f ∙ ap (λ b. cond b (record_change e (get m (changed_file e))) (get m f)) h)

after_here : (m : RecordMap) (e : Effect) → is_open_at (records_after m e) (changed_file e) ≡ is_open (node_change e (node_of (get m (changed_file e))))
after_here m e =
    let file = changed_file e in
    ap (λ o. is_open (node_of o)) (get_with_at m file (record_change e (get m file)) file ∙ ap (λ b. cond b (record_change e (get m file)) (get m file)) (same_self file))
    ∙ ap is_open (node_changed e (get m file))

-- what is open after an effect was, or the effect opened it
pub opened_or : (m : RecordMap) (e : Effect) (f : List ℕ) → is_open_at (records_after m e) f ≡ true → (is_open_at m f ≡ true) ⊎ In f (opened_by (e ∷ []))
opened_or m e f h = elim (either f (changed_file e)) as (λ _. (is_open_at m f ≡ true) ⊎ In f (opened_by (e ∷ []))) [
  | inl s ↦ here s (opens e) refl (is_open_at m f) refl
  | inr s ↦ inl (sym (after_beside m e f s) ∙ h)
]
  where
    here : f ≡ changed_file e → (b : Bool) → opens e ≡ b → (c : Bool) → is_open_at m f ≡ c → (c ≡ true) ⊎ In f (cond b (changed_file e ∷ []) [])
    here s b p true q = inl refl
    here s true p false q = inr (inl s)
    here s false p false q =
        let was : is_open (node_of (get m (changed_file e))) ≡ false = ap (is_open_at m) (sym s) ∙ q in
        let is : is_open_at (records_after m e) f ≡ false = ap (is_open_at (records_after m e)) s ∙ after_here m e ∙ closed_stays e (node_of (get m (changed_file e))) p was in
        let z : true ≡ false = sym h ∙ is in absurd (cc z)

pub opened_or_all : (es : List Effect) (m : RecordMap) (f : List ℕ) → is_open_at (records_after_all m es) f ≡ true → (is_open_at m f ≡ true) ⊎ In f (opened_by es)
opened_or_all [] m f h = inl h
opened_or_all (e ∷ es) m f h = elim (opened_or_all es (records_after m e) f h) as (λ _. (is_open_at m f ≡ true) ⊎ In f (opened_by (e ∷ es))) [
  | inl i ↦ elim (opened_or m e f i) as (λ _. (is_open_at m f ≡ true) ⊎ In f (opened_by (e ∷ es))) [ inl j ↦ inl j | inr j ↦ inr (front (opens e) j) ]
  | inr i ↦ inr (behind (opens e) i)
]
  where
    front : (b : Bool) → In f (cond b (changed_file e ∷ []) []) → In f (cond b (changed_file e ∷ opened_by es) (opened_by es))
    front true (inl s) = inl s
    front true (inr i) = absurd i
    front false i = absurd i

    behind : (b : Bool) → In f (opened_by es) → In f (cond b (changed_file e ∷ opened_by es) (opened_by es))
    behind true i = inr i
    behind false i = i

pub all_beside : (es : List Effect) (m : RecordMap) (f : List ℕ) → (In f (changed_files es) → ⊥) → is_open_at (records_after_all m es) f ≡ is_open_at m f
all_beside [] m f h = refl
all_beside (e ∷ es) m f h = all_beside es (records_after m e) f (λ i. h (inr i)) ∙ elim (either f (changed_file e)) as (λ _. is_open_at (records_after m e) f ≡ is_open_at m f) [
  | inl s ↦ absurd (h (inl s))
  | inr s ↦ after_beside m e f s
]

pub marked_after : (es : List Effect) (p q : Marks) (m : RecordMap) → MarkOpen [] p m → AreBetween p q (changed_files es) → AreMarked (opened_by es) q → MarkOpen (changed_files es) q (records_after_all m es)
marked_after es p q m own between marked = changed_marks (changed_files es) p q m (records_after_all m es) own between (all_beside es m) (λ f i h. elim (opened_or_all es m f h) as (λ _. is_some (get q f) ≡ true) [
  | inl j ↦ between.still f (own.all f j)
  | inr j ↦ marked f j
])

-- ## Records that go and come

pub marked_without : (files : List (List ℕ)) (marks : Marks) (m : RecordMap) → MarkOpen [] marks m → MarkOpen files marks (records_without files m)
marked_without files marks m own = changed_marks files marks marks m (records_without files m) own (between_same marks files) beside gone
  where
    none : (f : List ℕ) (gs : List (List ℕ)) → (In f gs → ⊥) → list_any (same f) gs ≡ false
    none f [] h = refl
    none f (g ∷ gs) h = elim (either f g) as (λ _. (same f g || list_any (same f) gs) ≡ false) [
      | inl s ↦ absurd (h (inl s))
      | inr s ↦ ap (λ b. b || list_any (same f) gs) s ∙ none f gs (λ i. h (inr i))
    ]

    some : (f : List ℕ) (gs : List (List ℕ)) → In f gs → list_any (same f) gs ≡ true
    some f [] i = absurd i
    some f (g ∷ gs) (inl s) = ap (λ b. b || list_any (same f) gs) (ap (same f) (sym s) ∙ same_self f)
    some f (g ∷ gs) (inr i) = elim (same f g) as (λ b. (b || list_any (same f) gs) ≡ true) [ true ↦ refl | false ↦ some f gs i ]

    beside : (f : List ℕ) → (In f files → ⊥) → is_open_at (records_without files m) f ≡ is_open_at m f
    beside f h = ap (λ o. is_open (node_of o)) (without_at files m f ∙ ap (λ b. cond b None (get m f)) (none f files h))

    gone : (f : List ℕ) → In f files → is_open_at (records_without files m) f ≡ true → is_some (get marks f) ≡ true
    gone f i h =
        let e : is_open_at (records_without files m) f ≡ false = ap (λ o. is_open (node_of o)) (without_at files m f ∙ ap (λ b. cond b None (get m f)) (some f files i)) in
        let z : true ≡ false = sym h ∙ e in absurd (cc z)

-- what is open then was, or came so
pub open_with : (rs : Keyed Record) (m : RecordMap) (f : List ℕ) → is_open_at (with_records rs m) f ≡ true → (is_open_at m f ≡ true) ⊎ In f (open_among rs)
open_with [] m f h = inl h
open_with (e ∷ rs) m f h = elim (open_with rs (insert m e.0 e.1) f h) as (λ _. (is_open_at m f ≡ true) ⊎ In f (open_among (e ∷ rs))) [
  | inl i ↦ elim (either f e.0) as (λ _. (is_open_at m f ≡ true) ⊎ In f (open_among (e ∷ rs))) [
    | inl s ↦ inr (here (is_open (Some e.1.node)) refl s i)
    | inr s ↦ inl (ap (λ o. is_open (node_of o)) (sym (insert_beside m e.0 f e.1 s)) ∙ i)
  ]
  | inr i ↦ inr (behind (is_open (Some e.1.node)) i)
]
  where
    here : (b : Bool) → is_open (Some e.1.node) ≡ b → f ≡ e.0 → is_open_at (insert m e.0 e.1) f ≡ true → In f (cond b (e.0 ∷ open_among rs) (open_among rs))
    here true p s i = inl s
    here false p s i =
        let is : is_open_at (insert m e.0 e.1) f ≡ is_open (Some e.1.node) = ap (is_open_at (insert m e.0 e.1)) s ∙ ap (λ o. is_open (node_of o)) (get-insert nat_list_cmp_total m e.0 e.1 e.0 ∙ ap (λ b. cond b (Some e.1) (get m e.0)) (same_self e.0)) in
        let z : true ≡ false = sym i ∙ is ∙ p in absurd (cc z)

    behind : (b : Bool) → In f (open_among rs) → In f (cond b (e.0 ∷ open_among rs) (open_among rs))
    behind true i = inr i
    behind false i = i

pub open_still : (rs : Keyed Record) (m : RecordMap) (f : List ℕ) → are_absent m rs ≡ true → is_open_at m f ≡ true → is_open_at (with_records rs m) f ≡ true
open_still rs m f a h = by (list_any (same f) (keys_of rs)) refl
  where
    by : (b : Bool) → list_any (same f) (keys_of rs) ≡ b → is_open_at (with_records rs m) f ≡ true
    by true t = let e : is_open_at m f ≡ false = ap (λ o. is_open (node_of o)) (absent_one f rs m a t) in let z : true ≡ false = sym h ∙ e in absurd (cc z)
    by false t = ap (λ o. is_open (node_of o)) (came_beside f rs m t) ∙ h

pub marked_with : (rs : Keyed Record) (p q : Marks) (m : RecordMap) → are_absent m rs ≡ true → MarkOpen [] p m → AreBetween p q (open_among rs) → AreMarked (open_among rs) q → MarkOpen (open_among rs) q (with_records rs m)
marked_with rs p q m a own between marked = record {
  all = λ f h. elim (open_with rs m f h) as (λ _. is_some (get q f) ≡ true) [ inl i ↦ between.still f (own.all f i) | inr i ↦ marked f i ];
  alone = λ f h. by f (between.only f h);
}
  where
    was : (f : List ℕ) → (is_open_at m f ≡ true) ⊎ In f [] → is_open_at m f ≡ true
    was f (inl e) = e
    was f (inr i) = absurd i

    by : (f : List ℕ) → (is_some (get p f) ≡ true) ⊎ In f (open_among rs) → (is_open_at (with_records rs m) f ≡ true) ⊎ In f (open_among rs)
    by f (inl h) = inl (open_still rs m f a (was f (own.alone f h)))
    by f (inr i) = inr i

pub marked_put : (file : List ℕ) (kept : Record) (p q : Marks) (m : RecordMap) → MarkOpen [] p m → q ≡ insert p file mark → MarkOpen (file ∷ []) q (insert m file kept)
marked_put file kept p q m own e = subst (λ s. MarkOpen (file ∷ []) s (insert m file kept)) (sym e) (changed_marks (file ∷ []) p (insert p file mark) m (insert m file kept) own (between_marked p file) beside opened)
  where
    beside : (f : List ℕ) → (In f (file ∷ []) → ⊥) → is_open_at (insert m file kept) f ≡ is_open_at m f
    beside f h = elim (either f file) as (λ _. is_open_at (insert m file kept) f ≡ is_open_at m f) [
      | inl s ↦ absurd (h (inl s))
      | inr s ↦ ap (λ o. is_open (node_of o)) (insert_beside m file f kept s)
    ]

    opened : (f : List ℕ) → In f (file ∷ []) → is_open_at (insert m file kept) f ≡ true → is_some (get (insert p file mark) f) ≡ true
    opened f (inl s) h = subst (λ k. is_some (get (insert p file mark) k) ≡ true) (sym s) (marked_here p file)
    opened f (inr i) h = absurd i

-- ## Numbers

pub marked_gift : (marks : Marks) (m : RecordMap) (dir : List ℕ) (k : Option ℕ) → MarkOpen [] marks m → MarkOpen [] marks (records_after_gift m dir k)
marked_gift marks m dir None own = own
marked_gift marks m dir (Some k) own = same_marks marks [] m _ (λ f. by (get m dir) refl f) own
  where
    by : (o : Option Record) → get m dir ≡ o → (f : List ℕ) → is_open_at (with_next m dir (k + 1) o) f ≡ is_open_at m f
    by None e f = refl
    by (Some r) e f = elim (either f dir) as (λ _. is_open_at (with_next m dir (k + 1) (Some r)) f ≡ is_open_at m f) [
      | inl s ↦ ap (is_open_at (insert m dir (record r { next = k + 1 }))) s ∙ ap (λ o. is_open (node_of o)) (get-insert nat_list_cmp_total m dir (record r { next = k + 1 }) dir ∙ ap (λ b. cond b (Some (record r { next = k + 1 })) (get m dir)) (same_self dir)) ∙ ap (λ o. is_open (node_of o)) (sym e) ∙ ap (is_open_at m) (sym s)
      | inr s ↦ ap (λ o. is_open (node_of o)) (insert_beside m dir f (record r { next = k + 1 }) s)
    ]

-- ## No record

pub marked_none : (marks : Marks) (m : RecordMap) → marks ≡ empty → m ≡ empty → MarkOpen [] marks m
marked_none marks m e h = subst (λ s. MarkOpen [] s m) (sym e) (subst (λ r. MarkOpen [] empty r) (sym h) (record {
  all = λ f i. let n : is_open_at empty f ≡ false = ap (λ (o : Option Record). is_open (node_of o)) (get-empty (slice_cmp nat_cmp) f) in let z : true ≡ false = sym i ∙ n in absurd (cc z);
  alone = λ f i. no_none _ (get-empty (slice_cmp nat_cmp) f) i;
}))

-- ## What the marks tell

erased : Keyed Record → Keyed Mark
erased es = map (λ e. (e.0, mark)) es

below_erased : (k : List ℕ) (es : Keyed Record) → below_all (slice_cmp nat_cmp) k (erased es) ≡ below_all (slice_cmp nat_cmp) k es
unfolding erased
below_erased k [] = refl
below_erased k (e ∷ es) = ap (λ b. is_lt (slice_cmp nat_cmp k e.0) && b) (below_erased k es)

sorted_erased : (es : Keyed Record) → is_sorted (slice_cmp nat_cmp) (erased es) ≡ is_sorted (slice_cmp nat_cmp) es
unfolding erased
sorted_erased [] = refl
sorted_erased (e ∷ es) = ap₂ (λ a b. a && b) (below_erased e.0 es) (sorted_erased es)

find_erased : (q : List ℕ) (es : Keyed Record) → find (slice_cmp nat_cmp) q (erased es) ≡ option_map (λ _. mark) (find (slice_cmp nat_cmp) q es)
unfolding erased
find_erased q [] = refl
find_erased q (e ∷ es) = by (same q e.0) (find_erased q es)
  where
    by : (b : Bool) → find (slice_cmp nat_cmp) q (map (λ e. (e.0, mark)) es) ≡ option_map (λ _. mark) (find (slice_cmp nat_cmp) q es) → cond b (Some mark) (find (slice_cmp nat_cmp) q (map (λ e. (e.0, mark)) es)) ≡ option_map (λ _. mark) (cond b (Some e.1) (find (slice_cmp nat_cmp) q es))
    by true h = refl
    by false h = h

keys_erased : (p : List ℕ → Bool) (es : Keyed Record) → keys_of (erased (filter (λ e. p e.0) es)) ≡ filter p (keys_of es)
unfolding erased
keys_erased p [] = refl
keys_erased p (e ∷ es) = by (p e.0) (keys_erased p es)
  where
    by : (b : Bool) → keys_of (map (λ e. (e.0, mark)) (filter (λ e. p e.0) es)) ≡ filter p (keys_of es) → keys_of (map (λ e. (e.0, mark)) (cond b (e ∷ filter (λ e. p e.0) es) (filter (λ e. p e.0) es))) ≡ cond b (e.0 ∷ filter p (keys_of es)) (filter p (keys_of es))
    by true h = ap (λ ks. e.0 ∷ ks) h
    by false h = h

one_mark : (o p : Option Mark) → is_some o ≡ is_some p → o ≡ p
one_mark None None e = refl
one_mark None (Some y) e = absurd (cc)
one_mark (Some x) None e = absurd (cc)
one_mark (Some x) (Some y) e = refl

open_there : (m : RecordMap) (q : List ℕ) (o : Option Record) → is_some (option_map (λ _. mark) (cond (is_open (node_of o)) o None)) ≡ is_open (node_of o)
open_there m q None = refl
open_there m q (Some r) = by (is_open (Some r.node))
  where
    by : (b : Bool) → is_some (option_map (λ (_ : Record). mark) (cond b (Some r) None)) ≡ b
    by true = refl
    by false = refl

pub keys_open : (marks : Marks) (m : RecordMap) → MarkOpen [] marks m → keys marks ≡ open_files m
keys_open marks m own = ap keys_of same_list ∙ keys_erased (is_open_at m) (entries m)
  where
    left : Keyed Record
    left = filter (λ e. is_open_at m e.0) (entries m)

    was : (f : List ℕ) → (is_open_at m f ≡ true) ⊎ In f [] → is_open_at m f ≡ true
    was f (inl e) = e
    was f (inr i) = absurd i

    agree : (f : List ℕ) (a b : Bool) → is_some (get marks f) ≡ a → is_open_at m f ≡ b → a ≡ b
    agree f true true p q = refl
    agree f false false p q = refl
    agree f true false p q = let z : true ≡ false = sym (was f (own.alone f p)) ∙ q in absurd (cc z)
    agree f false true p q = let z : true ≡ false = sym (own.all f q) ∙ p in absurd (cc z)

    there : (q : List ℕ) → is_some (find (slice_cmp nat_cmp) q (entries marks)) ≡ is_some (find (slice_cmp nat_cmp) q (erased left))
    there q =
        ap is_some (sym (get-entries marks q)) ∙ agree q _ _ refl refl
        ∙ sym (ap is_some (find_erased q left ∙ ap (option_map (λ _. mark)) (find-where_key (slice_cmp nat_cmp) (is_open_at m) q (λ x t. ap (is_open_at m) (sym (anti q x t))) (entries m) ∙ ap (λ o. cond (is_open_at m q) o None) (sym (get-entries m q)))) ∙ open_there m q (get m q))

    same_list : entries marks ≡ erased left
    same_list = same_entries (slice_cmp nat_cmp) nat_list_cmp_total anti (entries marks) (erased left) (entries_sorted marks)
        (subst T (sym (sorted_erased left)) (is_sorted-where_key (slice_cmp nat_cmp) (is_open_at m) (entries m) (entries_sorted m)))
        (λ q. one_mark _ _ (there q))

-- ## Files marked one after another

pub between_next : (p q r : Marks) (file : List ℕ) (files : List (List ℕ)) → AreBetween p q (file ∷ []) → AreBetween q r files → AreBetween p r (file ∷ files)
between_next p q r file files x y = between_more p q r (file ∷ []) files x y

pub between_few : (p q : Marks) (file : List ℕ) (files : List (List ℕ)) → AreBetween p q (file ∷ []) → AreBetween p q (file ∷ files)
between_few p q file files x = between_more p q q (file ∷ []) files x (between_same q files)

pub between_none : (p : Marks) (files : List (List ℕ)) → files ≡ [] → (q : Marks) → p ≡ q → AreBetween p q files
between_none p files e q s = subst (λ r. AreBetween p r files) s (between_same p files)

-- what is still to be marked, so that all of these are
pub record IsNoting (old : Marks) (all : List (List ℕ)) (opened : List (List ℕ)) (now : Marks) (rest : List (List ℕ)) (to_open : List (List ℕ)) : Type 0 where
  pub between : (q : Marks) → AreBetween now q rest → AreBetween old q all
  pub marked : (q : Marks) → AreBetween now q rest → AreMarked to_open q → AreMarked opened q

pub noting_begun : (old : Marks) (all opened : List (List ℕ)) → IsNoting old all opened old all opened
noting_begun old all opened = record { between = λ q b. b; marked = λ q b m. m }

-- one file more, which is marked where it is to be opened
pub noting_next : (old : Marks) (all opened : List (List ℕ)) (now next : Marks) (file : List ℕ) (rest one to_open : List (List ℕ)) → IsNoting old all opened now (file ∷ rest) (one ++ to_open) → AreBetween now next (file ∷ []) → AreMarked one next → IsNoting old all opened next rest to_open
noting_next old all opened now next file rest one to_open own step marked = record {
  between = λ q b. own.between q (between_next now next q file rest step b);
  marked = λ q b m. own.marked q (between_next now next q file rest step b) (λ f i. elim (split f one i) as (λ _. is_some (get q f) ≡ true) [
    | inl j ↦ b.still f (marked f j)
    | inr j ↦ m f j
  ]);
}
  where
    split : (f : List ℕ) (a : List (List ℕ)) → In f (a ++ to_open) → In f a ⊎ In f to_open
    split f [] i = inr i
    split f (g ∷ a) (inl e) = inl (inl e)
    split f (g ∷ a) (inr i) = elim (split f a i) as (λ _. In f (g ∷ a) ⊎ In f to_open) [ inl j ↦ inl (inr j) | inr j ↦ inr j ]

pub opened_next : (e : Effect) (es : List Effect) → opened_by (e ∷ es) ≡ opened_by (e ∷ []) ++ opened_by es
opened_next e es = by (opens e)
  where
    by : (b : Bool) → cond b (changed_file e ∷ opened_by es) (opened_by es) ≡ cond b (changed_file e ∷ []) [] ++ opened_by es
    by true = refl
    by false = refl

pub noting_done : (old : Marks) (all opened : List (List ℕ)) (now : Marks) (rest to_open : List (List ℕ)) → rest ≡ [] → to_open ≡ [] → IsNoting old all opened now rest to_open → AreBetween old now all × AreMarked opened now
noting_done old all opened now rest to_open e h own = (
  own.between now (between_same now rest),
  own.marked now (between_same now rest) (λ f i. absurd (subst (In f) h i)),
)

pub noted_open : (marks : Marks) (file : List ℕ) → AreMarked (file ∷ []) (insert marks file mark)
noted_open marks file f (inl s) = subst (λ k. is_some (get (insert marks file mark) k) ≡ true) (sym s) (marked_here marks file)
noted_open marks file f (inr i) = absurd i

pub opened_marked : (e : Effect) (p q : Marks) → q ≡ insert p (changed_file e) mark → AreMarked (opened_by (e ∷ [])) q
opened_marked e p q same f i = by (opens e) i
  where
    by : (b : Bool) → In f (cond b (changed_file e ∷ []) []) → is_some (get q f) ≡ true
    by true j = subst (λ k. is_some (get k f) ≡ true) (sym same) (noted_open p (changed_file e) f j)
    by false j = absurd j

-- ## Calls that do something or nothing

pub applied_marks : {X E : Type 0} (r : Result X E) (es : List Effect) (p q : Marks) (m n : RecordMap) → MarkOpen [] p m → AreBetween p q (changed_files es) → AreMarked (opened_by es) q → OnOk r (n ≡ records_after_all m es) → OnErr r (n ≡ m) → MarkOpen (changed_files es) q n
applied_marks (Ok u) es p q m n own between marked ok err = subst (λ k. MarkOpen (changed_files es) q k) (sym ok) (marked_after es p q m own between marked)
applied_marks (Err e) es p q m n own between marked ok err = subst (λ k. MarkOpen (changed_files es) q k) (sym err) (vain_marks (changed_files es) p q m own between)

-- what takes a file or a name away opens nothing
none_opened : (e : Effect) → takes_away e ≡ true → opened_by (e ∷ []) ≡ []
none_opened (SetChild dir name None) h = refl
none_opened (SetChild dir name (Some to)) h = absurd (cc)
none_opened (SetParent file dir name) h = absurd (cc)
none_opened (NewNode file kind dir name) h = absurd (cc)
none_opened (RemoveNode file) h = refl
none_opened (AddHandle file session number modes) h = absurd (cc)
none_opened (RemoveHandle file session number) h = absurd (cc)
none_opened (SetInfo file size stamp) h = absurd (cc)

pub taken_marks : (e : Effect) (marks : Marks) (m : RecordMap) → takes_away e ≡ true → MarkOpen [] marks m → MarkOpen (changed_file e ∷ []) marks (records_after m e)
taken_marks e marks m h own = marked_after (e ∷ []) marks marks m own (between_same marks (changed_file e ∷ [])) (subst (λ fs. AreMarked fs marks) (sym (none_opened e h)) (λ f i. absurd i))

pub joined_marks : {X E : Type 0} (r : Result X E) (rs : Keyed Record) (p q : Marks) (m n : RecordMap) → are_absent m rs ≡ true → MarkOpen [] p m → AreBetween p q (open_among rs) → AreMarked (open_among rs) q → OnOk r (n ≡ with_records rs m) → OnErr r (n ≡ m) → MarkOpen (open_among rs) q n
joined_marks (Ok u) rs p q m n a own between marked ok err = subst (λ k. MarkOpen (open_among rs) q k) (sym ok) (marked_with rs p q m a own between marked)
joined_marks (Err e) rs p q m n a own between marked ok err = subst (λ k. MarkOpen (open_among rs) q k) (sym err) (vain_marks (open_among rs) p q m own between)

pub put_marks : {X E : Type 0} (r : Result X E) (file : List ℕ) (kept : Record) (p q : Marks) (m n : RecordMap) → MarkOpen [] p m → q ≡ insert p file mark → OnOk r (n ≡ insert m file kept) → OnErr r (n ≡ m) → MarkOpen (file ∷ []) q n
put_marks (Ok u) file kept p q m n own e ok err = subst (λ k. MarkOpen (file ∷ []) q k) (sym ok) (marked_put file kept p q m own e)
put_marks (Err x) file kept p q m n own e ok err = subst (λ k. MarkOpen (file ∷ []) q k) (sym err) (vain_marks (file ∷ []) p q m own (subst (λ s. AreBetween p s (file ∷ [])) (sym e) (between_marked p file)))

-- and settled then
pub settled_one : (file : List ℕ) (p q : Marks) (m : RecordMap) → q ≡ settled m p file → MarkOpen (file ∷ []) p m → MarkOpen [] q m
settled_one file p q m e own = subst (λ s. MarkOpen [] s m) (sym e) (settled_open file [] p m own)

pub gift_marks : {X E : Type 0} (r : Result X E) (marks : Marks) (m n : RecordMap) (dir : List ℕ) (k : Option ℕ) → OnOk r (n ≡ records_after_gift m dir k) → OnErr r (n ≡ m) → MarkOpen [] marks m → MarkOpen [] marks n
gift_marks (Ok x) marks m n dir k ok err own = subst (MarkOpen [] marks) (sym ok) (marked_gift marks m dir k own)
gift_marks (Err e) marks m n dir k ok err own = subst (MarkOpen [] marks) (sym err) own

pub left_marks : (files given : List (List ℕ)) (marks : Marks) (m n : RecordMap) → files ≡ given → n ≡ records_without given m → MarkOpen [] marks m → MarkOpen files marks n
left_marks files given marks m n same left own = subst (λ fs. MarkOpen fs marks n) (sym same) (subst (MarkOpen given marks) (sym left) (marked_without given marks m own))
