-- No call that changes records lowers the next number of a directory whose record stands.
use Rattle.std.proofs.Common.{◌≡◌, ℕ, ◌+◌, ◌<◌, ◌≤◌, List, [], ◌∷◌, Bool, true, false, refl, ap, sym, ◌∙◌, subst, cond, arith}
use Rattle.std.specs.Prelude.{Option, Some, None, not, nat_le, option_map, is_some}
use Rattle.std.specs.List.{list_all, list_any}
use Rattle.std.specs.Map.{keys_of}
use Rattle.std.specs.Ordering.{nat_cmp, eq_by_cmp}
use Rattle.std.specs.Cmp.Lexicographic.{slice_cmp, nat_list_cmp_total}
use Rattle.std.specs.FinMap.{get, insert, get-insert}
use Rattle.std.proofs.lemmas.Bool.Decides.{nat_tests}
use Rattle.fs_ident.specs.Ordered.{Keyed}
use Rattle.fs_ident.proofs.Booleans.{first, second}
use Rattle.fs_field.specs.After.{changed_file}
use Rattle.fs_field.specs.declared.effect.Effect.{Effect}
use Rattle.fs_field.specs.declared.effect.Effect.TheVariants.{SetChild, SetParent, NewNode, RemoveNode, AddHandle, RemoveHandle, SetInfo}
use Rattle.fs_map.specs.Map.{gives}
use Rattle.fs_record.specs.declared.record.Record.{Record}
use Rattle.fs_record.specs.Records.{RecordMap, next_of}
use Rattle.fs_record.specs.Applied.{is_undoable, record_change, records_after, records_after_all}
use Rattle.fs_record.specs.Changes.{Change, apply, apply_all, fresh, gift, put, leave, split, join, after_change, after_changes, can_change, can_each_change, has_record_throughout, number_given}
use Rattle.fs_record.specs.Fresh.{fresh_number, records_after_gift, with_next}
use Rattle.fs_record.specs.Moving.{are_absent, records_left, records_without, with_records}
use Rattle.fs_record.proofs.Kept.{get_with_at}
use Rattle.fs_record.proofs.NodeValues.{key_is}
use Rattle.fs_record.proofs.NumbersRise.{effect_next, given_here, number_least}
use Rattle.fs_record.proofs.Parting.{left_at}
use Rattle.fs_record.proofs.TakenOut.{absent_one, came_beside, without_at}

none_stands : (o : Option Record) → o ≡ None → is_some o ≡ true → ⊥
none_stands None e h = absurd (cc h)
none_stands (Some r) e h = absurd (cc e)

at_most : (a b : ℕ) → nat_le a b ≡ true → a ≤ b
at_most a b h = grind (arith, nat_tests)

-- ## A record is put, or a number is given

-- whichever of two this is, the next number is no less
no_less : (b : Bool) (next : ℕ) (o p : Option Record) → (b ≡ true → next ≤ next_of o) → (b ≡ false → next ≤ next_of p) → next ≤ next_of (cond b o p)
no_less true next o p f g = f refl
no_less false next o p f g = g refl

put_rises : (m : RecordMap) (dir file : List ℕ) (r : Record) → next_of (get m file) ≤ r.next → next_of (get m dir) ≤ next_of (get (insert m file r) dir)
put_rises m dir file r h =
    subst (λ o. next_of (get m dir) ≤ next_of o) (sym (get-insert nat_list_cmp_total m file r dir))
    (no_less (eq_by_cmp (slice_cmp nat_cmp) dir file) (next_of (get m dir)) (Some r) (get m dir)
    (λ t. let p : next_of (get m file) ≤ r.next = h in
    let q : next_of (get m dir) ≡ next_of (get m file) = ap (λ x. next_of (get m x)) (key_is dir file t) in omega arith)
    (λ t. omega arith))

gift_rises : (m : RecordMap) (dir d : List ℕ) (k : ℕ) → next_of (get m d) ≤ k → next_of (get m dir) ≤ next_of (get (records_after_gift m d (Some k)) dir)
gift_rises m dir d k h = of (get m d)
  where
    of : (o : Option Record) → next_of (get m dir) ≤ next_of (get (with_next m d (k + 1) o) dir)
    of None = omega arith
    of (Some r) = put_rises m dir d (record { node = r.node; next = k + 1 }) (omega arith)

fresh_rises : (m : RecordMap) (dir d borne : List ℕ) → next_of (get m dir) ≤ next_of (get (records_after_gift m d (fresh_number m d borne)) dir)
fresh_rises m dir d borne = within (fresh_number m d borne) refl
  where
    within : (o : Option ℕ) → fresh_number m d borne ≡ o → next_of (get m dir) ≤ next_of (get (records_after_gift m d o) dir)
    within None e = omega arith
    within (Some k) e = gift_rises m dir d k (number_least m d borne k e).from

-- ## Effects

-- what takes no file away leaves its record
changed_stands : (e : Effect) (o : Option Record) → is_undoable e ≡ true → is_some o ≡ true → is_some (record_change e o) ≡ true
changed_stands (SetChild dir name None) o u h = absurd (cc u)
changed_stands (SetChild dir name (Some file)) None u h = absurd (cc h)
changed_stands (SetChild dir name (Some file)) (Some r) u h = refl
changed_stands (SetParent file dir name) None u h = absurd (cc h)
changed_stands (SetParent file dir name) (Some r) u h = refl
changed_stands (NewNode file kind dir name) o u h = refl
changed_stands (RemoveNode file) o u h = absurd (cc u)
changed_stands (AddHandle file session n modes) None u h = absurd (cc h)
changed_stands (AddHandle file session n modes) (Some r) u h = refl
changed_stands (RemoveHandle file session n) None u h = absurd (cc h)
changed_stands (RemoveHandle file session n) (Some r) u h = refl
changed_stands (SetInfo file size stamp) None u h = absurd (cc h)
changed_stands (SetInfo file size stamp) (Some r) u h = refl

effect_stands : (m : RecordMap) (dir : List ℕ) (e : Effect) → is_undoable e ≡ true → is_some (get m dir) ≡ true → is_some (get (records_after m e) dir) ≡ true
effect_stands m dir e u h = ap is_some (get_with_at m f (record_change e (get m f)) dir) ∙ within (eq_by_cmp (slice_cmp nat_cmp) dir f) refl
  where
    f : List ℕ
    f = changed_file e

    within : (b : Bool) → eq_by_cmp (slice_cmp nat_cmp) dir f ≡ b → is_some (cond b (record_change e (get m f)) (get m dir)) ≡ true
    within true t = changed_stands e (get m f) u (ap (λ x. is_some (get m x)) (sym (key_is dir f t)) ∙ h)
    within false t = h

effects_rise : (m : RecordMap) (dir : List ℕ) (es : List Effect) → list_all is_undoable es ≡ true → is_some (get m dir) ≡ true → next_of (get m dir) ≤ next_of (get (records_after_all m es) dir)
effects_rise m dir [] u h = omega arith
effects_rise m dir (e ∷ es) u h =
    let s : is_some (get (records_after m e) dir) ≡ true = effect_stands m dir e (first (is_undoable e) (list_all is_undoable es) u) h in
    let p : next_of (get (records_after m e) dir) ≡ next_of (get m dir) = effect_next m e dir s in
    let q : next_of (get (records_after m e) dir) ≤ next_of (get (records_after_all (records_after m e) es) dir) = effects_rise (records_after m e) dir es (second (is_undoable e) (list_all is_undoable es) u) s in
    omega arith

-- ## Records go and come

none_or_same : (b : Bool) (o p : Option Record) → p ≡ cond b None o → is_some p ≡ true → next_of o ≤ next_of p
none_or_same true o p e h = absurd (none_stands p e h)
none_or_same false o p e h = let q : next_of p ≡ next_of o = ap next_of e in omega arith

turned : (b : Bool) (o : Option Record) → cond (not b) o None ≡ cond b None o
turned true o = refl
turned false o = refl

leave_rises : (m : RecordMap) (dir : List ℕ) (files : List (List ℕ)) → is_some (get (records_without files m) dir) ≡ true → next_of (get m dir) ≤ next_of (get (records_without files m) dir)
leave_rises m dir files h = none_or_same (list_any (eq_by_cmp (slice_cmp nat_cmp) dir) files) (get m dir) (get (records_without files m) dir) (without_at files m dir) h

split_rises : (m : RecordMap) (dir prefix : List ℕ) (given : Keyed Bool) → is_some (get (records_left prefix given m) dir) ≡ true → next_of (get m dir) ≤ next_of (get (records_left prefix given m) dir)
split_rises m dir prefix given h = none_or_same (gives prefix given dir) (get m dir) (get (records_left prefix given m) dir) (left_at prefix given m dir ∙ turned (gives prefix given dir) (get m dir)) h

join_rises : (m : RecordMap) (dir : List ℕ) (es : Keyed Record) → are_absent m es ≡ true → is_some (get m dir) ≡ true → next_of (get m dir) ≤ next_of (get (with_records es m) dir)
join_rises m dir es a h = within (list_any (eq_by_cmp (slice_cmp nat_cmp) dir) (keys_of es)) refl
  where
    within : (b : Bool) → list_any (eq_by_cmp (slice_cmp nat_cmp) dir) (keys_of es) ≡ b → next_of (get m dir) ≤ next_of (get (with_records es m) dir)
    within true t = absurd (none_stands (get m dir) (absent_one dir es m a t) h)
    within false t = let q : next_of (get (with_records es m) dir) ≡ next_of (get m dir) = ap next_of (came_beside dir es m t) in omega arith

-- ## One change after the other

change_rises : (m : RecordMap) (dir : List ℕ) (c : Change) → can_change m c ≡ true → is_some (get m dir) ≡ true → is_some (get (after_change m c) dir) ≡ true → next_of (get m dir) ≤ next_of (get (after_change m c) dir)
change_rises m dir (apply e) u h s = let q : next_of (get (records_after m e) dir) ≡ next_of (get m dir) = effect_next m e dir s in omega arith
change_rises m dir (apply_all es) u h s = effects_rise m dir es u h
change_rises m dir (fresh d borne) u h s = fresh_rises m dir d borne
change_rises m dir (gift d k) u h s = gift_rises m dir d k (at_most (next_of (get m d)) k u)
change_rises m dir (put file kept) u h s = put_rises m dir file kept (at_most (next_of (get m file)) kept.next u)
change_rises m dir (leave files) u h s = leave_rises m dir files s
change_rises m dir (split prefix given) u h s = split_rises m dir prefix given s
change_rises m dir (join es) u h s = join_rises m dir es u h

stands_first : (m : RecordMap) (dir : List ℕ) (cs : List Change) → has_record_throughout dir m cs ≡ true → is_some (get m dir) ≡ true
stands_first m dir [] h = h
stands_first m dir (c ∷ cs) h = first _ _ h

changes_rise : (m : RecordMap) (dir : List ℕ) (cs : List Change) → has_record_throughout dir m cs ≡ true → can_each_change m cs ≡ true → next_of (get m dir) ≤ next_of (get (after_changes m cs) dir)
changes_rise m dir [] h u = omega arith
changes_rise m dir (c ∷ cs) h u =
    let onward : has_record_throughout dir (after_change m c) cs ≡ true = second (is_some (get m dir)) (has_record_throughout dir (after_change m c) cs) h in
    let p : next_of (get m dir) ≤ next_of (get (after_change m c) dir) = change_rises m dir c (first (can_change m c) (can_each_change (after_change m c) cs) u) (stands_first m dir (c ∷ cs) h) (stands_first (after_change m c) dir cs onward) in
    let q : next_of (get (after_change m c) dir) ≤ next_of (get (after_changes (after_change m c) cs) dir) = changes_rise (after_change m c) dir cs onward (second (can_change m c) (can_each_change (after_change m c) cs) u) in
    omega arith

-- ## What is given

abbrev below : List ℕ → ℕ → List ℕ × ℕ
below d i = (d, i)

-- a number that is given is no less than the next one
given_from : (m : RecordMap) (dir : List ℕ) (k : ℕ) (c : Change) → can_change m c ≡ true → number_given m c ≡ Some (dir, k) → next_of (get m dir) ≤ k
given_from m dir k (fresh d borne) u e = within (fresh_number m d borne) refl e
  where
    within : (o : Option ℕ) → fresh_number m d borne ≡ o → option_map (below d) o ≡ Some (below dir k) → next_of (get m dir) ≤ k
    within None f e = absurd (cc e)
    within (Some i) f e =
        let r : below d i ≡ below dir k = cc e in
        subst (λ (x : List ℕ × ℕ). next_of (get m x.0) ≤ x.1) r (number_least m d borne i f).from
given_from m dir k (gift d i) u e =
    let r : below d i ≡ below dir k = cc e in
    subst (λ (x : List ℕ × ℕ). next_of (get m x.0) ≤ x.1) r (at_most (next_of (get m d)) i u)
given_from m dir k (apply e) u h = absurd (cc h)
given_from m dir k (apply_all es) u h = absurd (cc h)
given_from m dir k (put file kept) u h = absurd (cc h)
given_from m dir k (leave files) u h = absurd (cc h)
given_from m dir k (split prefix given) u h = absurd (cc h)
given_from m dir k (join es) u h = absurd (cc h)

-- the directory goes on behind it
behind_gift : (m : RecordMap) (dir : List ℕ) (k : ℕ) (o : Option Record) → get m dir ≡ o → is_some (get (records_after_gift m dir (Some k)) dir) ≡ true → next_of (get (records_after_gift m dir (Some k)) dir) ≡ k + 1
behind_gift m dir k None e h = absurd (none_stands (get (records_after_gift m dir (Some k)) dir) (ap (λ o. get (with_next m dir (k + 1) o) dir) e ∙ e) h)
behind_gift m dir k (Some r) e h = ap next_of (given_here m dir k r e)

behind_this : (m : RecordMap) (dir d : List ℕ) (k i : ℕ) → Some (below d i) ≡ Some (below dir k) → is_some (get (records_after_gift m d (Some i)) dir) ≡ true → next_of (get (records_after_gift m d (Some i)) dir) ≡ k + 1
behind_this m dir d k i e s =
    let r : below d i ≡ below dir k = cc e in
    ap (λ (x : List ℕ × ℕ). next_of (get (records_after_gift m x.0 (Some x.1)) dir)) r
    ∙ behind_gift m dir k (get m dir) refl (subst (λ (x : List ℕ × ℕ). is_some (get (records_after_gift m x.0 (Some x.1)) dir) ≡ true) r s)

behind_given : (m : RecordMap) (dir : List ℕ) (k : ℕ) (c : Change) → number_given m c ≡ Some (dir, k) → is_some (get (after_change m c) dir) ≡ true → next_of (get (after_change m c) dir) ≡ k + 1
behind_given m dir k (fresh d borne) e s = within (fresh_number m d borne) e s
  where
    within : (o : Option ℕ) → option_map (below d) o ≡ Some (below dir k) → is_some (get (records_after_gift m d o) dir) ≡ true → next_of (get (records_after_gift m d o) dir) ≡ k + 1
    within None e s = absurd (cc e)
    within (Some i) e s = behind_this m dir d k i e s
behind_given m dir k (gift d i) e s = behind_this m dir d k i e s
behind_given m dir k (apply e) h s = absurd (cc h)
behind_given m dir k (apply_all es) h s = absurd (cc h)
behind_given m dir k (put file kept) h s = absurd (cc h)
behind_given m dir k (leave files) h s = absurd (cc h)
behind_given m dir k (split prefix given) h s = absurd (cc h)
behind_given m dir k (join es) h s = absurd (cc h)

-- while its record stands a directory gives ever greater numbers
pub numbers_differ : (m : RecordMap) (dir : List ℕ) (k j : ℕ) (a b : Change) (cs : List Change) → can_change m a ≡ true → number_given m a ≡ Some (dir, k)
    → has_record_throughout dir (after_change m a) cs ≡ true → can_each_change (after_change m a) cs ≡ true
    → can_change (after_changes (after_change m a) cs) b ≡ true → number_given (after_changes (after_change m a) cs) b ≡ Some (dir, j) → k < j
numbers_differ m dir k j a b cs u e h us v f =
    let n : RecordMap = after_change m a in
    let o : RecordMap = after_changes n cs in
    let p : next_of (get n dir) ≡ k + 1 = behind_given m dir k a e (stands_first n dir cs h) in
    let q : next_of (get n dir) ≤ next_of (get o dir) = changes_rise n dir cs h us in
    let r : next_of (get o dir) ≤ j = given_from o dir j b v f in
    omega arith
