-- The modes that sessions have, told in one way and another.
use Rattle.std.proofs.Common.{◌≡◌, ℕ, ◌==◌, ◌&&◌, ◌||◌, not, Bool, true, false, List, [], ◌∷◌, refl, sym, ap, ◌∙◌, cond}
use Rattle.std.proofs.lemmas.Bool.{eqb-true}
use Rattle.std.specs.List.{list_any}
use Rattle.std.specs.FinMap.{get}
use Rattle.fs_ident.specs.declared.actor.Session.{Session}
use Rattle.fs_modes.specs.declared.modes.Mode.{Mode}
use Rattle.fs_modes.specs.declared.modes.Mode.TheVariants.{AccR, AccW, AccD, DenyR, DenyW, DenyD}
use Rattle.fs_modes.specs.declared.modes.Modes.{Modes}
use Rattle.fs_modes.specs.Modes.{has, or, none}
use Rattle.fs_field.specs.After.{Handles}
use Rattle.fs_model.specs.declared.node.Handle.{Handle}
use Rattle.fs_moderows.specs.Answer.{has_mode}
use Rattle.fs_moderows.specs.Kept.{others_have}
use Rattle.fs_record.specs.Records.{RecordMap, node_of}
use Rattle.fs_record.specs.ValueOf.{handles_of, own_of, selves_from, selves_of, selves_in}
use Rattle.fs_record.specs.ValueOf as record_of
use Rattle.fs_view.specs.Told.{all_modes}

or_has : (a b : Modes) (m : Mode) → has (or a b) m ≡ (has a m || has b m)
or_has a b AccR = refl
or_has a b AccW = refl
or_has a b AccD = refl
or_has a b DenyR = refl
or_has a b DenyW = refl
or_has a b DenyD = refl

none_has : (m : Mode) → has none m ≡ false
none_has AccR = refl
none_has AccW = refl
none_has AccD = refl
none_has DenyR = refl
none_has DenyW = refl
none_has DenyD = refl

-- ## Told of sessions, and of handles

-- a session that passes is told to have the mode, and has a handle with it
abbrev told : (ℕ → Bool) → Mode → Session × Modes → Bool
told test m e = test e.0.0 && has e.1 m

abbrev holds : (ℕ → Bool) → Mode → Handle → Bool
holds test m x = test x.session.0 && has x.modes m

split : (t a b rest : Bool) → ((t && (a || b)) || rest) ≡ ((t && a) || ((t && b) || rest))
split true true b rest = refl
split true false b rest = refl
split false a b rest = refl

from_handles : (test : ℕ → Bool) (m : Mode) (s : Session) (modes : Modes) (hs : List Handle) → list_any (told test m) (selves_from s modes hs) ≡ ((test s.0 && has modes m) || list_any (holds test m) hs)
from_handles test m s modes [] = refl
from_handles test m s modes (x ∷ xs) =
    within (x.session.0 == s.0) refl (from_handles test m s (or modes x.modes) xs) (from_handles test m x.session x.modes xs)
  where
    within : (b : Bool) → (x.session.0 == s.0) ≡ b
        → list_any (told test m) (selves_from s (or modes x.modes) xs) ≡ ((test s.0 && has (or modes x.modes) m) || list_any (holds test m) xs)
        → list_any (told test m) (selves_from x.session x.modes xs) ≡ ((test x.session.0 && has x.modes m) || list_any (holds test m) xs)
        → list_any (told test m) (cond b (selves_from s (or modes x.modes) xs) ((s, modes) ∷ selves_from x.session x.modes xs)) ≡ ((test s.0 && has modes m) || list_any (holds test m) (x ∷ xs))
    within true e p q =
        p
        ∙ ap (λ b. (test s.0 && b) || list_any (holds test m) xs) (or_has modes x.modes m)
        ∙ split (test s.0) (has modes m) (has x.modes m) (list_any (holds test m) xs)
        ∙ ap (λ n. (test s.0 && has modes m) || ((test n && has x.modes m) || list_any (holds test m) xs)) (sym (eqb-true x.session.0 s.0 e))
    within false e p q = ap (λ b. (test s.0 && has modes m) || b) q

of_handles : (test : ℕ → Bool) (m : Mode) (hs : List Handle) → list_any (told test m) (selves_of hs) ≡ list_any (holds test m) hs
of_handles test m [] = refl
of_handles test m (x ∷ xs) = from_handles test m x.session x.modes xs

-- whether others have the mode is told alike of sessions and of handles
pub others_alike : (m : RecordMap) (f : List ℕ) (mode : Mode) (s : Session) → others_have (selves_in m f) mode s ≡ record_of.others_have s mode (handles_of (node_of (get m f)))
others_alike m f mode s = of_handles (λ n. not (n == s.0)) mode (handles_of (node_of (get m f)))

-- ## A session's own

-- the handles have together what one of them has
pub has_all : (own : Handles) (m : Mode) → has (all_modes own) m ≡ list_any (λ x. has x.1 m) own
has_all [] m = none_has m
has_all (x ∷ xs) m = or_has x.1 (all_modes xs) m ∙ ap (λ b. has x.1 m || b) (has_all xs m)

own_any : (s : Session) (m : Mode) (hs : List Handle) → list_any (holds (λ n. n == s.0) m) hs ≡ list_any (λ x. has x.1 m) (own_of s hs)
own_any s m [] = refl
own_any s m (x ∷ xs) =
    elim (x.session.0 == s.0) as (λ b. ((b && has x.modes m) || list_any (holds (λ n. n == s.0) m) xs) ≡ list_any (λ y. has y.1 m) (cond b ((x.h, x.modes) ∷ own_of s xs) (own_of s xs))) [
      | true ↦ ap (λ b. has x.modes m || b) (own_any s m xs)
      | false ↦ own_any s m xs
    ]

-- a session has a mode that its own handles have
pub mode_by_own : (m : RecordMap) (f : List ℕ) (mode : Mode) (s : Session) → has_mode (selves_in m f) s mode ≡ list_any (λ x. has x.1 mode) (own_of s (handles_of (node_of (get m f))))
mode_by_own m f mode s = of_handles (λ n. n == s.0) mode (handles_of (node_of (get m f))) ∙ own_any s mode (handles_of (node_of (get m f)))
