-- A session that loses its handles on a file.
use Rattle.std.proofs.Common.{◌≡◌, ◌==◌, not, ◌&&◌, ℕ, Bool, true, false, List, refl, ap, cond, sym, ◌∙◌, subst}
use Rattle.std.specs.Prelude.{Option, Some, None, option_map}
use Rattle.std.specs.Cmp.{nat_eq_equiv}
use Rattle.std.specs.Cmp.Lexicographic.{same_text}
use Rattle.std.specs.List.{filter, find, list_any}
use Rattle.std.proofs.lemmas.Bool.{or_from, not-false}
use Rattle.fs_ident.specs.In.{In}
use Rattle.fs_ident.specs.Ident.{same}
use Rattle.fs_ident.specs.declared.actor.Session.{Session}
use Rattle.fs_ident.proofs.Booleans.{joined, neither, second_fails}
use Rattle.fs_ident.proofs.Standing.{In-filter, none_pass, none_any}
use Rattle.fs_modes.specs.declared.modes.Mode.{Mode}
use Rattle.fs_modes.specs.declared.modes.Modes.{Modes}
use Rattle.fs_modes.specs.Modes.{has}
use Rattle.fs_field.specs.declared.field.Field.TheVariants.{Other}
use Rattle.fs_field.specs.declared.row.Row.{Row}
use Rattle.fs_field.specs.Conflict.{Selves, has_fixed, NoConflict}
use Rattle.fs_moderows.specs.Answer.{is_self_of_other, stands_against_reap, has_mode, rests_on, reap_blocker}
use Rattle.fs_moderows.specs.Kept.{others_have, others_may_have, KeptPromises, selves_without}
use Rattle.fs_moderows.proofs.Witnesses.{In_any, In_none, In_filtered, turned, Witness, witness, witnessed, witness_past, witness_one, witness_of}
use Rattle.fs_moderows.proofs.Free.{AreOnModes, free_goes, goes_free}
use Rattle.fs_moderows.proofs.Promises.{kept_holds, holds_kept, holds_still}

nothing_found : (found : Option Row) → option_map (λ (row : Row). row.no) found ≡ None → found ≡ None
nothing_found (Some row) h = absurd (cc)
nothing_found None h = refl

pub none_blocks : (selves : Selves) (rows : List Row) (s : Session) (f : List ℕ) → reap_blocker (selves f) rows s f ≡ None → (a : Row) → In a rows → stands_against_reap (selves f) rows s f a ≡ false
none_blocks selves rows s f h = none_pass (stands_against_reap (selves f) rows s f) rows (nothing_found (find (stands_against_reap (selves f) rows s f) rows) h)

-- an entry of another session, or of another file, stays
abbrev stays : Session → Session × Modes → Bool
stays s e = not (e.0.0 == s.0)

still_listed : (f : List ℕ) (s : Session) (selves : Selves) (h : List ℕ) (e : Session × Modes) → In e (selves h) → (same h f ≡ true → (e.0.0 == s.0) ≡ false) → In e (selves_without f s selves h)
still_listed f s selves h e i k =
    elim (same h f) as (λ b. same h f ≡ b → In e (cond b (filter (stays s) (selves h)) (selves h))) [
      | true ↦ λ t. In_filtered (stays s) (selves h) e i (ap not (k t))
      | false ↦ λ t. i
    ] refl

was_listed : (f : List ℕ) (s : Session) (selves : Selves) (h : List ℕ) (e : Session × Modes) → In e (selves_without f s selves h) → In e (selves h)
was_listed f s selves h e =
    elim (same h f) as (λ b. In e (cond b (filter (stays s) (selves h)) (selves h)) → In e (selves h)) [
      | true ↦ λ i. In-filter (stays s) e (selves h) i
      | false ↦ λ i. i
    ]

-- a witness that stays listed
kept_witness : (f : List ℕ) (s : Session) (selves : Selves) (rows : List Row) (h : List ℕ) (n : Mode) (x y : Session) → (w : Witness selves rows h n x y) → (same h f ≡ true → (w.entry.0.0 == s.0) ≡ false) → Witness (selves_without f s selves) rows h n x y
kept_witness f s selves rows h n x y w k = record {
  entry = w.entry;
  listed = still_listed f s selves h w.entry w.listed k;
  not_x = w.not_x;
  not_y = w.not_y;
  told = w.told;
  fixed = w.fixed;
}

-- where the row does not stand against it, a third session keeps what it tells
third : (f : List ℕ) (s : Session) (selves : Selves) (rows : List Row) (a : Row) → stands_against_reap (selves f) rows s f a ≡ false → (h : List ℕ) (n : Mode) → a.field ≡ Other h n → a.promise ≡ Some true → (e : Session × Modes) → In e (selves h) → has e.1 n ≡ true → (e.0.0 == a.session.0) ≡ false → same h f ≡ true → (e.0.0 == s.0) ≡ true → Witness selves rows h n a.session s
third f s selves rows a none h n fe pe e i told apart t one =
    let file : h ≡ f = same_text h f (sym t) in
    let listed : In e (selves f) = subst (λ g. In e (selves g)) file i in
    let mode : has_mode (selves f) s n ≡ true = In_any (λ z. (z.0.0 == s.0) && has z.1 n) (selves f) e listed (joined (e.0.0 == s.0) (has e.1 n) one told) in
    let rests : rests_on (selves f) rows s f a.session a.field a.promise ≡ false = second_fails (not (a.session.0 == s.0)) (rests_on (selves f) rows s f a.session a.field a.promise) (ap not (turned s.0 e.0.0 a.session.0 (nat_eq_equiv.symm s.0 e.0.0 ∙ one) apart)) none in
    let here : rests_on (selves f) rows s f a.session (Other h n) (Some true) ≡ false = ap (λ z. rests_on (selves f) rows s f a.session z (Some true)) (sym fe) ∙ ap (λ z. rests_on (selves f) rows s f a.session a.field z) (sym pe) ∙ rests in
    let fixed : has_fixed (λ g. selves f) rows h n a.session s ≡ true = not-false (has_fixed (λ g. selves f) rows h n a.session s) (second_fails (same h f && has_mode (selves f) s n) (not (has_fixed (λ g. selves f) rows h n a.session s)) (joined (same h f) (has_mode (selves f) s n) t mode) here) in
    witness_of selves rows h f n a.session s file (witness (λ g. selves f) rows h n a.session s fixed)

-- where a witness is the session, a third one takes its place
in_place : (f : List ℕ) (s : Session) (selves : Selves) (rows : List Row) (a : Row) → stands_against_reap (selves f) rows s f a ≡ false → (h : List ℕ) (n : Mode) → a.field ≡ Other h n → a.promise ≡ Some true → Witness selves rows h n a.session a.session → Witness (selves_without f s selves) rows h n a.session a.session
in_place f s selves rows a none h n fe pe w =
    elim (same h f) as (λ b. same h f ≡ b → Witness (selves_without f s selves) rows h n a.session a.session) [
      | false ↦ λ t. kept_witness f s selves rows h n a.session a.session w (λ u. let wrong : true ≡ false = sym u ∙ t in absurd (cc))
      | true ↦ λ t. elim (w.entry.0.0 == s.0) as (λ b. (w.entry.0.0 == s.0) ≡ b → Witness (selves_without f s selves) rows h n a.session a.session) [
        | false ↦ λ u. kept_witness f s selves rows h n a.session a.session w (λ v. u)
        | true ↦ λ u.
            let z : Witness selves rows h n a.session s = third f s selves rows a none h n fe pe w.entry w.listed w.told w.not_x t u in
            witness_one (selves_without f s selves) rows h n a.session s (kept_witness f s selves rows h n a.session s z (λ v. z.not_y))
      ] refl
    ] refl

fewer_have : (f : List ℕ) (s : Session) (selves : Selves) (h : List ℕ) (n : Mode) (x : Session) → others_have (selves h) n x ≡ false → others_have (selves_without f s selves h) n x ≡ false
fewer_have f s selves h n x k = In_none (λ e. not (e.0.0 == x.0) && has e.1 n) (selves_without f s selves h) (λ e i. none_any (λ z. not (z.0.0 == x.0) && has z.1 n) (selves h) k e (was_listed f s selves h e i))

fewer_may : (f : List ℕ) (s : Session) (selves : Selves) (rows : List Row) (h : List ℕ) (n : Mode) (x : Session) → others_may_have (selves h) rows h n x ≡ false → others_may_have (selves_without f s selves h) rows h n x ≡ false
fewer_may f s selves rows h n x k =
    let q : (others_have (selves h) n x ≡ false) × (list_any (is_self_of_other h n x) rows ≡ false) = neither (others_have (selves h) n x) (list_any (is_self_of_other h n x) rows) k in
    or_from (others_have (selves_without f s selves h) n x) (list_any (is_self_of_other h n x) rows) (fewer_have f s selves h n x q.0) q.1

pub reap_kept : (selves : Selves) (rows : List Row) (s : Session) (f : List ℕ) → ((a : Row) → In a rows → stands_against_reap (selves f) rows s f a ≡ false) → KeptPromises selves rows → KeptPromises (selves_without f s selves) rows
reap_kept selves rows s f none kept a i = holds_kept (selves_without f s selves) rows a.session a.field a.promise (λ h n fe.
    holds_still a.promise (has_fixed selves rows h n a.session a.session) (others_may_have (selves h) rows h n a.session) (has_fixed (selves_without f s selves) rows h n a.session a.session) (others_may_have (selves_without f s selves h) rows h n a.session)
    (λ pe hf. witnessed (selves_without f s selves) rows h n a.session a.session (in_place f s selves rows a (none a i) h n fe pe (witness selves rows h n a.session a.session hf)))
    (fewer_may f s selves rows h n a.session)
    (kept_holds selves rows a.session a.field a.promise (kept a i) h n fe))

pub reap_free : (selves : Selves) (rows : List Row) (s : Session) (f : List ℕ) → ((a : Row) → In a rows → stands_against_reap (selves f) rows s f a ≡ false) → AreOnModes rows → NoConflict selves rows → NoConflict (selves_without f s selves) rows
reap_free selves rows s f none on free = goes_free (selves_without f s selves) rows on (λ a b i j d h n fe t.
    let q : (a.promise ≡ Some true) × (has_fixed selves rows h n a.session b.session ≡ true) = free_goes selves rows free a b i j d h n fe t in
    let w : Witness selves rows h n a.session a.session = witness_one selves rows h n a.session b.session (witness selves rows h n a.session b.session q.1) in
    (q.0, witnessed (selves_without f s selves) rows h n a.session b.session (witness_past (selves_without f s selves) rows h n a.session a.session b j t (in_place f s selves rows a (none a i) h n fe q.0 w))))
