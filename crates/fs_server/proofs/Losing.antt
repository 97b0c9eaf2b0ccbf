-- Sessions that lose their handles on a turn, one after another.
use Rattle.std.proofs.Common.{◌≡◌, ℕ, ◌+◌, ◌<◌, ◌≤◌, ◌^◌, List, [], ◌∷◌, ◌++◌, length, Bool, true, false, refl, ap, sym, subst, ◌∙◌, cond, map, drop, get_or, inr, arith, length-append, ap₂, suc, le_trans}
use Rattle.std.specs.Prelude.{Option, Some, None, IfSome, nat_le, not, ◌==◌, ◌&&◌, nat_lt}
use Rattle.std.specs.List.{filter, list_any, list_all}
use Rattle.std.specs.Cmp.Lexicographic.{nat_list_eq_equiv}
use Rattle.std.specs.FinMap.{get, keys}
use Rattle.std.proofs.lemmas.Bool.Decides.{nat_tests}
use Rattle.std.proofs.lemmas.List.{drop_more}
use Rattle.std.proofs.lemmas.List.Folds.{list_all-append}
use Rattle.std.proofs.lemmas.Bool.{not-true}
use Rattle.fs_ident.specs.In.{In}
use Rattle.fs_ident.specs.Ident.{same}
use Rattle.fs_ident.specs.declared.actor.LeaseNo.{LeaseNo}
use Rattle.fs_ident.specs.declared.actor.Session.{Session}
use Rattle.fs_ident.proofs.Booleans.{first, second}
use Rattle.fs_ident.proofs.Passing.{all-In}
use Rattle.fs_modes.specs.declared.modes.Modes.{Modes}
use Rattle.fs_field.specs.Field.{same_field}
use Rattle.fs_field.specs.Table.{no_before}
use Rattle.fs_field.specs.declared.field.Field.{Field}
use Rattle.fs_field.specs.declared.field.Field.TheVariants.{Own}
use Rattle.fs_field.specs.declared.row.Row.{Row}
use Rattle.fs_field.specs.declared.effect.Effect.{Effect}
use Rattle.fs_field.specs.declared.effect.Effect.TheVariants.{RemoveHandle}
use Rattle.fs_moderows.specs.Answer.{reap_blocker}
use Rattle.fs_model.specs.declared.node.Handle.{Handle}
use Rattle.fs_model.specs.Step.{is_empty}
use Rattle.fs_msg.specs.declared.core_error.Counter.{Counter}
use Rattle.fs_msg.specs.declared.core_error.Counter.TheVariants.{Leases, Reaps}
use Rattle.fs_msg.specs.declared.server_note.ServerNote.TheVariants as note
use Rattle.fs_msg.specs.declared.item.Item.{Item}
use Rattle.fs_record.specs.declared.record.Record.{Record}
use Rattle.fs_record.specs.Records.{RecordMap, AreRecords, IsRecord, node_of}
use Rattle.fs_record.specs.Applied.{records_after_all, is_undoable}
use Rattle.fs_record.specs.Effects.{reap_effects}
use Rattle.fs_record.specs.Opens.{is_open, open_files, are_apart}
use Rattle.fs_record.specs.ValueOf.{handles_of, own_of, selves_of, selves_in, is_by_session}
use Rattle.fs_record.proofs.AllApplied.{records_after_all-append, after_all_kept}
use Rattle.fs_record.proofs.Reaping.{reaped_record, reaped_get, reaped_selves, reaps_apart, reap_undoable}
use Rattle.fs_record.proofs.BySession.{selves_rise}
use Rattle.fs_server.specs.declared.reaps.Lost.{Lost}
use Rattle.fs_server.specs.declared.state.Server.{Server}
use Rattle.fs_server.specs.Lost.{CanLose, reaping_by, turned_by}
use Rattle.fs_server.specs.Reaps.{Reaping, has_own, lapsed_on, lapsed_among, lapsed_in, reap_item, with_blocker, reap_from, reaped, turn_over, turn_step}
use Rattle.fs_server.specs.Server.{only_noted}
use Rattle.fs_server.specs.Step.{counter_over}
use Rattle.fs_server.proofs.OneByOne.{Lapsed, each_lapsed, reap_done, reap_kept_off, reaps_leave}

-- some, and then the others
abbrev goes_on : Lapsed → Reaping → Reaping
goes_on ys r = reap_from ys r.server r.admitted r.blockers

pub reap_from-append : (xs ys : Lapsed) (t : Server) (admitted : List Item) (blockers : List LeaseNo) → reap_from (xs ++ ys) t admitted blockers ≡ goes_on ys (reap_from xs t admitted blockers)
reap_from-append xs ys = each_lapsed (λ xs t admitted blockers r. reap_from (xs ++ ys) t admitted blockers ≡ goes_on ys r)
    (λ t admitted blockers. refl)
    (λ f x xs t admitted blockers r e p. reap_done f x (xs ++ ys) t admitted blockers e ∙ p)
    (λ f x xs t admitted blockers r number e p. reap_kept_off f x (xs ++ ys) t admitted blockers number e ∙ p)
    xs

-- reaps are only added
pub reaps_rise : (xs : Lapsed) (t : Server) (admitted : List Item) (blockers : List LeaseNo) → t.reaps ≤ (reap_from xs t admitted blockers).server.reaps
reaps_rise = each_lapsed (λ xs t admitted blockers r. t.reaps ≤ r.server.reaps) (λ t admitted blockers. omega arith) (λ f x xs t admitted blockers r e p. one_more t.reaps r.server.reaps p) (λ f x xs t admitted blockers r number e p. p)
  where
    one_more : (a b : ℕ) → a + 1 ≤ b → a ≤ b
    one_more a b h = omega arith

longer : (number : LeaseNo) (blockers : List LeaseNo) → length (with_blocker number blockers) ≡ length blockers + 1
longer number [] = refl
longer number (b ∷ bs) = elim (no_before number b) as (λ c. length (cond c (number ∷ b ∷ bs) (b ∷ with_blocker number bs)) ≡ length (b ∷ bs) + 1) [
  | true ↦ omega arith
  | false ↦ omega (arith, longer number bs)
]

-- each session is reaped, or a lease is in the way
pub each_told : (xs : Lapsed) (t : Server) (admitted : List Item) (blockers : List LeaseNo) → length (reap_from xs t admitted blockers).admitted + length (reap_from xs t admitted blockers).blockers ≡ (length admitted + length blockers) + length xs
each_told = each_lapsed (λ xs t admitted blockers r. length r.admitted + length r.blockers ≡ (length admitted + length blockers) + length xs)
    (λ t admitted blockers. omega arith)
    (λ f x xs t admitted blockers r e p. p ∙ omega (arith, length-append admitted (reap_item t.me (t.reaps + 1) f x ∷ [])))
    (λ f x xs t admitted blockers r number e p. p ∙ omega (arith, longer number blockers))

-- ## Apart

-- the sessions on the file
abbrev on_file : List ℕ → List (Session × Modes) → Lapsed
on_file f es = map (λ e. (f, e.0)) es

module _ (f : List ℕ) (x : Session) (t : Server) (admitted : List Item) (blockers : List LeaseNo) where
  -- one session loses its handles, or nothing is changed
  abbrev after_one : Server
  after_one = (reap_from ((f, x) ∷ []) t admitted blockers).server

  one_by : (P : RecordMap → Type 0) → P (records_after_all t.records (reap_effects t.records f x)) → P t.records → P after_one.records
  one_by P here there = by (reap_blocker (selves_in t.records f) t.rows x f) refl
    where
      by : (o : Option LeaseNo) → reap_blocker (selves_in t.records f) t.rows x f ≡ o → P (reap_from ((f, x) ∷ []) t admitted blockers).server.records
      by None e = subst (λ r. P r.server.records) (sym (reap_done f x [] t admitted blockers e)) here
      by (Some number) e = subst (λ r. P r.server.records) (sym (reap_kept_off f x [] t admitted blockers number e)) there

  -- the records of other files stay
  one_elsewhere : (g : List ℕ) → same g f ≡ false → get after_one.records g ≡ get t.records g
  one_elsewhere g h = one_by (λ m. get m g ≡ get t.records g) (reaped_get x t.records f g ∙ ap (λ b. cond b (reaped_record x (get t.records f)) (get t.records g)) h) refl

  -- another session's handles stay to be reaped
  one_apart : (y : Session) → (y.0 == x.0) ≡ false → reap_effects after_one.records f y ≡ reap_effects t.records f y
  one_apart y h = one_by (λ m. reap_effects m f y ≡ reap_effects t.records f y) (reaps_apart x t.records f f y (never (same f f) h)) refl
    where
      never : (a : Bool) {b : Bool} → b ≡ false → (a && b) ≡ false
      never true h = h
      never false h = refl

elsewhere : (g f : List ℕ) → same g f ≡ false → (es : List (Session × Modes)) (t : Server) (admitted : List Item) (blockers : List LeaseNo) → get (reap_from (on_file f es) t admitted blockers).server.records g ≡ get t.records g
elsewhere g f h [] t admitted blockers = refl
elsewhere g f h (e ∷ es) t admitted blockers =
    let r : Reaping = reap_from ((f, e.0) ∷ []) t admitted blockers in
    ap (λ r. get r.server.records g) (reap_from-append ((f, e.0) ∷ []) (on_file f es) t admitted blockers)
    ∙ elsewhere g f h es r.server r.admitted r.blockers
    ∙ one_elsewhere f e.0 t admitted blockers g h

-- ## A reap more

-- the parts of what was lost
pub lost_is : (l : Lost) (effects : List Effect) (admitted : List Item) (blockers : List LeaseNo) → l.effects ≡ effects → l.admitted ≡ admitted → l.blockers ≡ blockers
    → l ≡ record { effects = effects; admitted = admitted; blockers = blockers }
lost_is l effects admitted blockers p q r = λ i. record { effects = p i; admitted = q i; blockers = r i }

module _ (s : Server) (l : Lost) (f : List ℕ) (x : Session) where
  abbrev pub lost_more : Lost
  lost_more = record { effects = l.effects ++ reap_effects s.records f x; admitted = l.admitted ++ reap_item s.me ((s.reaps + length l.admitted) + 1) f x ∷ []; blockers = l.blockers }

  count_more : s.reaps + length lost_more.admitted ≡ (s.reaps + length l.admitted) + 1
  count_more = omega (arith, length-append l.admitted (reap_item s.me ((s.reaps + length l.admitted) + 1) f x ∷ []))

  pub more_can : CanLose l s → (s.reaps + length l.admitted) + 1 < 2 ^ 64 → CanLose lost_more s
  more_can c h = record {
    undoable = list_all-append is_undoable l.effects (reap_effects s.records f x) ∙ ap (λ b. b && list_all is_undoable (reap_effects s.records f x)) c.undoable ∙ reap_undoable x s.records f;
    few = omega (arith, count_more);
  }

  pub more_by : reap_effects (reaping_by l s).server.records f x ≡ reap_effects s.records f x
      → reap_blocker (selves_in (reaping_by l s).server.records f) s.rows x f ≡ None
      → reaping_by lost_more s ≡ reap_from ((f, x) ∷ []) (reaping_by l s).server l.admitted l.blockers
  more_by still none = sym (reap_done f x [] (reaping_by l s).server l.admitted l.blockers none
      ∙ (λ i. record {
        server = record s {
          reaps = sym count_more i;
          records = (ap (records_after_all (records_after_all s.records l.effects)) still ∙ sym (records_after_all-append s.records l.effects (reap_effects s.records f x))) i;
        };
        admitted = lost_more.admitted;
        blockers = l.blockers;
      }))

  pub more_selves : AreRecords s.records
      → reap_effects (reaping_by l s).server.records f x ≡ reap_effects s.records f x
      → filter (λ (e : Session × Modes). not (e.0.0 == x.0)) (selves_in (reaping_by l s).server.records f) ≡ selves_in (reaping_by lost_more s).server.records f
  more_selves own still =
      sym (ap (λ b. cond b (filter (λ (e : Session × Modes). not (e.0.0 == x.0)) (selves_in (reaping_by l s).server.records f)) (selves_in (reaping_by l s).server.records f)) (nat_list_eq_equiv.refl f))
      ∙ sym (reaped_selves x (reaping_by l s).server.records f f (after_all_kept s.records l.effects own))
      ∙ ap (λ m. selves_in m f) (ap (records_after_all (reaping_by l s).server.records) still ∙ sym (records_after_all-append s.records l.effects (reap_effects s.records f x)))

-- ## One file

-- those of the list with no lease on their handles on the file
abbrev lapsed_told : Server → List ℕ → List (Session × Modes) → Lapsed
lapsed_told s f es = on_file f (filter (λ e. not (has_own s.rows f e.0)) es)

-- what is so before those in the list
pub record IsLosing (s : Server) (f : List ℕ) (start : Lost) (es : List (Session × Modes)) (l : Lost) (selves : List (Session × Modes)) : Type 0 where
  pub lost : reap_from (lapsed_told s f es) (reaping_by l s).server l.admitted l.blockers ≡ reap_from (lapsed_on s f) (reaping_by start s).server start.admitted start.blockers
  pub can : CanLose l s
  pub told : selves ≡ selves_in (reaping_by l s).server.records f
  pub still : (e : Session × Modes) → In e es → reap_effects (reaping_by l s).server.records f e.0 ≡ reap_effects s.records f e.0
  pub rising : is_by_session es ≡ true

selves_rise_in : (o : Option Record) → IfSome o IsRecord → is_by_session (selves_of (handles_of (node_of o))) ≡ true
selves_rise_in None own = refl
selves_rise_in (Some r) own = selves_rise r.node.handles own.in_order.handles

pub losing_first : (s : Server) (f : List ℕ) (l : Lost) (selves : List (Session × Modes)) → AreRecords s.records → get (reaping_by l s).server.records f ≡ get s.records f → CanLose l s → selves ≡ selves_in s.records f → IsLosing s f l (selves_in s.records f) l selves
losing_first s f l selves own still can told = record {
  lost = refl;
  can = can;
  told = told ∙ ap (λ o. selves_of (handles_of (node_of o))) (sym still);
  still = λ e i. ap (λ o. map (λ (h : ℕ × Modes). RemoveHandle f e.0 h.0) (own_of e.0 (handles_of (node_of o)))) still;
  rising = selves_rise_in (get s.records f) (own f);
}

-- whether the session has a lease on its handles, as the code asks
pub has_own_asked : (s : Server) (f : List ℕ) (x : Session) (told : Bool) (own : Field) (rows : List Row) → told ≡ list_any (λ (r : Row). same_field r.field own && (r.session.0 == x.0)) rows → own ≡ Own f → rows ≡ s.rows → has_own s.rows f x ≡ told
has_own_asked s f x told own rows e is same = sym (e ∙ ap₂ (λ g rs. list_any (λ (r : Row). same_field r.field g && (r.session.0 == x.0)) rs) is same)

-- at this place
pub losing_here : (s : Server) (f : List ℕ) (start : Lost) (all : List (Session × Modes)) (i : ℕ) (d : Session × Modes) (l : Lost) (selves : List (Session × Modes)) → i < length all → IsLosing s f start (drop i all) l selves → IsLosing s f start (get_or all i d ∷ drop (i + 1) all) l selves
losing_here s f start all i d l selves h k = subst (λ es. IsLosing s f start es l selves) (drop_more all i d h) k

module _ (s : Server) (f : List ℕ) (start : Lost) (e : Session × Modes) (es : List (Session × Modes)) (l : Lost) (selves : List (Session × Modes)) (k : IsLosing s f start (e ∷ es) l selves) where
  apart_from : (y : Session × Modes) → In y es → (y.0.0 == e.0.0) ≡ false
  apart_from y i = less y.0.0 e.0.0 (all-In (λ (z : Session × Modes). nat_lt e.0.0 z.0.0) es (first _ _ k.rising) y i)
    where
      less : (a b : ℕ) → nat_lt b a ≡ true → (a == b) ≡ false
      less a b h = grind (arith, nat_tests)

  -- it has a lease on its handles
  pub losing_past : has_own s.rows f e.0 ≡ true → IsLosing s f start es l selves
  losing_past h = record {
    lost = ap (λ b. reap_from (on_file f (cond (not b) (e ∷ filter (λ z. not (has_own s.rows f z.0)) es) (filter (λ z. not (has_own s.rows f z.0)) es))) (reaping_by l s).server l.admitted l.blockers) (sym h) ∙ k.lost;
    can = k.can;
    told = k.told;
    still = λ y i. k.still y (inr i);
    rising = second _ _ k.rising;
  }

  lapsed_first : has_own s.rows f e.0 ≡ false → lapsed_told s f (e ∷ es) ≡ (f, e.0) ∷ lapsed_told s f es
  lapsed_first h = ap (λ b. on_file f (cond (not b) (e ∷ filter (λ z. not (has_own s.rows f z.0)) es) (filter (λ z. not (has_own s.rows f z.0)) es))) h

  whole : has_own s.rows f e.0 ≡ false → reap_from (lapsed_on s f) (reaping_by start s).server start.admitted start.blockers ≡ goes_on (lapsed_told s f es) (reap_from ((f, e.0) ∷ []) (reaping_by l s).server l.admitted l.blockers)
  whole h =
      sym k.lost
      ∙ ap (λ xs. reap_from xs (reaping_by l s).server l.admitted l.blockers) (lapsed_first h)
      ∙ reap_from-append ((f, e.0) ∷ []) (lapsed_told s f es) (reaping_by l s).server l.admitted l.blockers

  -- it has none
  pub losing_more : has_own s.rows f e.0 ≡ false → (n : Lost) (left : List (Session × Modes)) → reaping_by n s ≡ reap_from ((f, e.0) ∷ []) (reaping_by l s).server l.admitted l.blockers
      → CanLose n s → left ≡ selves_in (reaping_by n s).server.records f → IsLosing s f start es n left
  losing_more h n left is can told = record {
    lost = ap (goes_on (lapsed_told s f es)) is ∙ sym (whole h);
    can = can;
    told = told;
    still = λ y i. ap (λ r. reap_effects r.server.records f y.0) is ∙ one_apart f e.0 (reaping_by l s).server l.admitted l.blockers y.0 (apart_from y i) ∙ k.still y (inr i);
    rising = second _ _ k.rising;
  }

  -- a count that is spent here is spent at the end
  pub losing_spent : has_own s.rows f e.0 ≡ false → (n : ℕ) → n ≤ (reap_from ((f, e.0) ∷ []) (reaping_by l s).server l.admitted l.blockers).server.reaps
      → n ≤ (reap_from (lapsed_on s f) (reaping_by start s).server start.admitted start.blockers).server.reaps
  losing_spent h n p =
      let r : Reaping = reap_from ((f, e.0) ∷ []) (reaping_by l s).server l.admitted l.blockers in
      subst (λ w. n ≤ w.server.reaps) (sym (whole h)) (le_trans p (reaps_rise (lapsed_told s f es) r.server r.admitted r.blockers))

-- ## All files

-- what is so before those in the list
pub record AreLosing (s : Server) (files rest : List (List ℕ)) (l : Lost) : Type 0 where
  pub lost : reap_from (lapsed_among s rest) (reaping_by l s).server l.admitted l.blockers ≡ reap_from (lapsed_among s files) s [] []
  pub can : CanLose l s
  pub still : (g : List ℕ) → In g rest → get (reaping_by l s).server.records g ≡ get s.records g
  pub apart : are_apart rest ≡ true

-- at this place
pub losing_at : (s : Server) (files : List (List ℕ)) (i : ℕ) (f : List ℕ) (l : Lost) → i < length files → f ≡ get_or files i f → AreLosing s files (drop i files) l → AreLosing s files (f ∷ drop (i + 1) files) l
losing_at s files i f l h is k = subst (λ rest. AreLosing s files rest l) (drop_more files i f h ∙ ap (λ g. g ∷ drop (i + 1) files) (sym is)) k

module _ (s : Server) (files : List (List ℕ)) (f : List ℕ) (rest : List (List ℕ)) (l : Lost) (k : AreLosing s files (f ∷ rest) l) where
  whole_all : reap_from (lapsed_among s files) s [] [] ≡ goes_on (lapsed_among s rest) (reap_from (lapsed_on s f) (reaping_by l s).server l.admitted l.blockers)
  whole_all = sym k.lost ∙ reap_from-append (lapsed_on s f) (lapsed_among s rest) (reaping_by l s).server l.admitted l.blockers

  other_file : (g : List ℕ) → In g rest → same g f ≡ false
  other_file g i = not-true (same g f) (all-In (λ g. not (same g f)) rest (first _ _ k.apart) g i)

  pub losing_on : (n : Lost) → reaping_by n s ≡ reap_from (lapsed_on s f) (reaping_by l s).server l.admitted l.blockers → CanLose n s → AreLosing s files rest n
  losing_on n is can = record {
    lost = ap (goes_on (lapsed_among s rest)) is ∙ sym whole_all;
    can = can;
    still = λ g i. ap (λ r. get r.server.records g) is ∙ elsewhere g f (other_file g i) (filter (λ e. not (has_own s.rows f e.0)) (selves_in s.records f)) (reaping_by l s).server l.admitted l.blockers ∙ k.still g (inr i);
    apart = second _ _ k.apart;
  }

  pub losing_on_spent : (n : ℕ) → n ≤ (reap_from (lapsed_on s f) (reaping_by l s).server l.admitted l.blockers).server.reaps → n ≤ (reap_from (lapsed_among s files) s [] []).server.reaps
  losing_on_spent n p =
      let r : Reaping = reap_from (lapsed_on s f) (reaping_by l s).server l.admitted l.blockers in
      subst (λ w. n ≤ w.server.reaps) (sym whole_all) (le_trans p (reaps_rise (lapsed_among s rest) r.server r.admitted r.blockers))

-- ## The turn

none_on : (s : Server) (f : List ℕ) (o : Option Record) → get s.records f ≡ o → is_open (node_of o) ≡ false → lapsed_on s f ≡ []
none_on s f None e h = ap (λ o. lapsed_told s f (selves_of (handles_of (node_of o)))) e
none_on s f (Some r) e h = ap (λ o. lapsed_told s f (selves_of (handles_of (node_of o)))) e ∙ by r.node.handles h
  where
    by : (hs : List Handle) → not (is_empty hs) ≡ false → lapsed_told s f (selves_of hs) ≡ []
    by [] h = refl
    by (x ∷ xs) h = absurd (cc)

open_among : (s : Server) (files : List (List ℕ)) → lapsed_among s (filter (λ f. is_open (node_of (get s.records f))) files) ≡ lapsed_among s files
open_among s [] = refl
open_among s (f ∷ files) = by (is_open (node_of (get s.records f))) refl (open_among s files)
  where
    by : (b : Bool) → is_open (node_of (get s.records f)) ≡ b → lapsed_among s (filter (λ f. is_open (node_of (get s.records f))) files) ≡ lapsed_among s files
        → lapsed_among s (cond b (f ∷ filter (λ f. is_open (node_of (get s.records f))) files) (filter (λ f. is_open (node_of (get s.records f))) files)) ≡ lapsed_on s f ++ lapsed_among s files
    by true e p = ap (λ xs. lapsed_on s f ++ xs) p
    by false e p = p ∙ ap (λ xs. xs ++ lapsed_among s files) (sym (none_on s f (get s.records f) refl e))

pub lapsed_open : (s : Server) → lapsed_among s (open_files s.records) ≡ lapsed_in s
lapsed_open s = open_among s (keys s.records)

busy : (a b n : ℕ) → a + b ≡ (0 + 0) + suc n → ((a == 0) && (b == 0)) ≡ false
busy a b n h = grind (arith, nat_tests)

turned_over : (l : Lost) (s : Server) (xs : Lapsed) → reaping_by l s ≡ reap_from xs s [] [] → turned_by l s ≡ turn_over xs s
turned_over l s [] e = ap₂ (λ a b. cond ((length a == 0) && (length b == 0)) (only_noted note.Idle s) (reaped (reaping_by l s))) (ap (λ r. r.admitted) e) (ap (λ r. r.blockers) e)
turned_over l s (x ∷ xs) e =
    let told : length l.admitted + length l.blockers ≡ (0 + 0) + suc (length xs) = ap (λ r. length r.admitted + length r.blockers) e ∙ each_told (x ∷ xs) s [] [] in
    ap (λ b. cond b (only_noted note.Idle s) (reaped (reaping_by l s))) (busy (length l.admitted) (length l.blockers) (length xs) told) ∙ ap reaped e

pub turned : (l : Lost) (s : Server) → reaping_by l s ≡ reap_from (lapsed_among s (open_files s.records)) s [] [] → turned_by l s ≡ turn_step s
turned l s e = turned_over l s (lapsed_in s) (e ∙ ap (λ xs. reap_from xs s [] []) (lapsed_open s))

turn_server : (xs : Lapsed) (s : Server) → (turn_over xs s).server ≡ (reap_from xs s [] []).server
turn_server [] s = refl
turn_server (x ∷ xs) s = refl

over : (given reaps : ℕ) (rest : Option Counter) → given < 2 ^ 64 → 2 ^ 64 ≤ reaps → cond (nat_le (2 ^ 64) given) (Some Leases) (cond (nat_le (2 ^ 64) reaps) (Some Reaps) rest) ≡ Some Reaps
over given reaps rest g r = grind (arith, nat_tests)

pub turn_spent : (s : Server) (counter : Counter) → s.given < 2 ^ 64 → counter ≡ Reaps → 2 ^ 64 ≤ (reap_from (lapsed_among s (open_files s.records)) s [] []).server.reaps → counter_over (turn_step s).server ≡ Some counter
turn_spent s counter g is h =
    ap counter_over (turn_server (lapsed_in s) s ∙ ap (λ xs. (reap_from xs s [] []).server) (sym (lapsed_open s)))
    ∙ over _ _ _ (subst (λ n. n < 2 ^ 64) (sym (ap (λ t. t.given) (reaps_leave (lapsed_among s (open_files s.records)) s [] []))) g) h
    ∙ ap Some (sym is)
