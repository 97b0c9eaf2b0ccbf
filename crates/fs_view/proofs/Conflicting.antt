-- Conflicting opens, told by the session's own handles and by the modes of the others.
use Rattle.std.proofs.Common.{◌≡◌, ℕ, ◌&&◌, ◌||◌, ◌==◌, Bool, true, false, not, List, [], ◌∷◌, refl, ap, cond, ◌∙◌}
use Rattle.std.specs.Prelude.{Some}
use Rattle.std.specs.List.{filter, list_any}
use Rattle.fs_ident.specs.declared.actor.Session.{Session}
use Rattle.fs_ident.proofs.Booleans.{or_regroup}
use Rattle.fs_modes.specs.declared.modes.Mode.{Mode}
use Rattle.fs_modes.specs.declared.modes.Mode.TheVariants.{AccR, AccW, AccD, DenyR, DenyW, DenyD}
use Rattle.fs_modes.specs.declared.modes.Modes.{Modes}
use Rattle.fs_modes.specs.Modes.{has, opposing, conflicts}
use Rattle.fs_model.specs.declared.node.Handle.{Handle}
use Rattle.fs_model.specs.Handles.{handle_at, any_conflicts}
use Rattle.fs_field.proofs.Named.{swapped}
use Rattle.fs_record.specs.ValueOf.{own_of, others_have}
use Rattle.fs_view.specs.Told.{modes_under, own_conflicts, modes_listed}

-- the session's handle is found among its own as among all
pub own_handle : (s : Session) (h : ℕ) (hs : List Handle) → modes_under (own_of s hs) h ≡ handle_at hs s h
own_handle s h [] = refl
own_handle s h (x ∷ xs) =
    elim (x.session.0 == s.0) as (λ b. modes_under (cond b ((x.h, x.modes) ∷ own_of s xs) (own_of s xs)) h ≡ cond (b && (x.h == h)) (Some x.modes) (handle_at xs s h)) [
      | true ↦ ap (cond (x.h == h) (Some x.modes)) (own_handle s h xs)
      | false ↦ own_handle s h xs
    ]

or_assoc : (a b c : Bool) → (a || (b || c)) ≡ ((a || b) || c)
or_assoc true b c = refl
or_assoc false b c = refl

-- a handle conflicts: one of the session's own, or one of another session
pub split : (s : Session) (modes : Modes) (hs : List Handle) → any_conflicts hs modes ≡ (own_conflicts (own_of s hs) modes || list_any (λ x. not (x.session.0 == s.0) && conflicts x.modes modes) hs)
split s modes [] = refl
split s modes (x ∷ xs) =
    ap (λ b. conflicts x.modes modes || b) (split s modes xs) ∙
    elim (x.session.0 == s.0) as (λ b. (conflicts x.modes modes || (own_conflicts (own_of s xs) modes || list_any (λ y. not (y.session.0 == s.0) && conflicts y.modes modes) xs)) ≡ (own_conflicts (cond b ((x.h, x.modes) ∷ own_of s xs) (own_of s xs)) modes || ((not b && conflicts x.modes modes) || list_any (λ y. not (y.session.0 == s.0) && conflicts y.modes modes) xs))) [
      | true ↦ or_assoc (conflicts x.modes modes) (own_conflicts (own_of s xs) modes) _
      | false ↦ swapped (conflicts x.modes modes) (own_conflicts (own_of s xs) modes) _
    ]

any_filter : (p q : Mode → Bool) (ms : List Mode) → list_any q (filter p ms) ≡ list_any (λ m. p m && q m) ms
any_filter p q [] = refl
any_filter p q (m ∷ ms) =
    elim (p m) as (λ b. list_any q (cond b (m ∷ filter p ms) (filter p ms)) ≡ ((b && q m) || list_any (λ n. p n && q n) ms)) [
      | true ↦ ap (λ b. q m || b) (any_filter p q ms)
      | false ↦ any_filter p q ms
    ]

and_comm : (a b : Bool) → (a && b) ≡ (b && a)
and_comm true true = refl
and_comm true false = refl
and_comm false true = refl
and_comm false false = refl

six_ors : (a b c d e f : Bool) → (a || (b || (c || (d || (e || (f || false)))))) ≡ (((a || b) || c) || ((d || e) || f))
six_ors true b c d e f = refl
six_ors false true c d e f = refl
six_ors false false true d e f = refl
six_ors false false false true e f = refl
six_ors false false false false true f = refl
six_ors false false false false false true = refl
six_ors false false false false false false = refl

-- modes conflict where one has what an open of the other keeps from others
pub told_conflict : (a b : Modes) → list_any (has a) (modes_listed (opposing b)) ≡ conflicts a b
told_conflict a b =
    any_filter (has (opposing b)) (has a) (AccR ∷ AccW ∷ AccD ∷ DenyR ∷ DenyW ∷ DenyD ∷ []) ∙ (six_ors (b.deny_r && a.acc_r) (b.deny_w && a.acc_w) (b.deny_d && a.acc_d) (b.acc_r && a.deny_r) (b.acc_w && a.deny_w) (b.acc_d && a.deny_d)
    ∙ ap (λ x. ((x || (b.deny_w && a.acc_w)) || (b.deny_d && a.acc_d)) || (((b.acc_r && a.deny_r) || (b.acc_w && a.deny_w)) || (b.acc_d && a.deny_d))) (and_comm b.deny_r a.acc_r)
    ∙ ap (λ x. (((a.acc_r && b.deny_r) || x) || (b.deny_d && a.acc_d)) || (((b.acc_r && a.deny_r) || (b.acc_w && a.deny_w)) || (b.acc_d && a.deny_d))) (and_comm b.deny_w a.acc_w)
    ∙ ap (λ x. (((a.acc_r && b.deny_r) || (a.acc_w && b.deny_w)) || x) || (((b.acc_r && a.deny_r) || (b.acc_w && a.deny_w)) || (b.acc_d && a.deny_d))) (and_comm b.deny_d a.acc_d))

any_none : (ms : List Mode) → list_any (λ m. false) ms ≡ false
any_none [] = refl
any_none (m ∷ ms) = any_none ms

any_or : (p q : Mode → Bool) (ms : List Mode) → list_any (λ m. p m || q m) ms ≡ (list_any p ms || list_any q ms)
any_or p q [] = refl
any_or p q (m ∷ ms) = ap (λ b. (p m || q m) || b) (any_or p q ms) ∙ or_regroup (p m) (q m) (list_any p ms) (list_any q ms)

any_and : (b : Bool) (q : Mode → Bool) (ms : List Mode) → list_any (λ m. b && q m) ms ≡ (b && list_any q ms)
any_and true q ms = refl
any_and false q ms = any_none ms

-- another session has one of the modes that an open keeps from others where a handle of another session conflicts
pub others_conflict : (s : Session) (modes : Modes) (hs : List Handle) → list_any (λ m. others_have s m hs) (modes_listed (opposing modes)) ≡ list_any (λ x. not (x.session.0 == s.0) && conflicts x.modes modes) hs
others_conflict s modes [] = any_none (modes_listed (opposing modes))
others_conflict s modes (x ∷ xs) =
    any_or (λ m. not (x.session.0 == s.0) && has x.modes m) (λ m. others_have s m xs) (modes_listed (opposing modes))
    ∙ (ap (λ b. b || list_any (λ m. others_have s m xs) (modes_listed (opposing modes))) (any_and (not (x.session.0 == s.0)) (has x.modes) (modes_listed (opposing modes)) ∙ ap (λ b. not (x.session.0 == s.0) && b) (told_conflict x.modes modes))
    ∙ ap (λ b. (not (x.session.0 == s.0) && conflicts x.modes modes) || b) (others_conflict s modes xs))
