-- Replies that were told, one event after another.
use Rattle.std.proofs.Common.{◌≡◌, ◌⊎◌, List, [], ◌∷◌, ◌++◌, length, sym, refl, inl, inr, arith, subst}
use Rattle.std.proofs.lemmas.List.{append-nil}
use Rattle.fs_ident.specs.In.{In}
use Rattle.fs_ident.proofs.Standing.{In-append, In-front, In-last}
use Rattle.fs_msg.specs.declared.item.Item.{Item}
use Rattle.fs_schedule.specs.declared.event.Event.{Event}
use Rattle.fs_schedule.specs.declared.outcome.Outcome.{Outcome}
use Rattle.fs_world.specs.Order.{Tale, ReplyGiven, after, tale_of, IsAdmitted, AllAdmitted, HasNumberOf, Agrees}

-- one more event, with its outcome
pub tale_push : (t : Tale) (es : List Event) (os : List Outcome) (e : Event) (o : Outcome) → length es ≡ length os
    → tale_of t (es ++ e ∷ []) (os ++ o ∷ []) ≡ after e.what o (tale_of t es os)
tale_push t [] [] e o h = refl
tale_push t [] (p ∷ ps) e o h = absurd (omega arith)
tale_push t (d ∷ ds) [] e o h = absurd (omega arith)
tale_push t (d ∷ ds) (p ∷ ps) e o h = tale_push (after d.what p t) ds ps e o (omega arith)

grown : (j : List Item) (i : Item) (t : ReplyGiven) → IsAdmitted j t → IsAdmitted (j ++ i ∷ []) t
grown j i t h = (h.0, In-front h.0 j (i ∷ []) h.1, h.2, h.3)

-- one more item, and what was told of it
pub admitted_push : (j : List Item) (told : List ReplyGiven) (i : Item) (t : ReplyGiven) → HasNumberOf i t → Agrees i t
    → AllAdmitted j told → AllAdmitted (j ++ i ∷ []) (told ++ t ∷ [])
admitted_push j told i t number agrees h = λ x m. either x (In-append x told (t ∷ []) m)
  where
    either : (x : ReplyGiven) → In x told ⊎ In x (t ∷ []) → IsAdmitted (j ++ i ∷ []) x
    either x (inl m) = grown j i x (h x m)
    either x (inr (inl e)) = subst (IsAdmitted (j ++ i ∷ [])) (sym e) (i, In-last j i, number, agrees)
    either x (inr (inr m)) = absurd m

-- where nothing was told
pub admitted_still : (j : List Item) (told : List ReplyGiven) → AllAdmitted j told → AllAdmitted j (told ++ [])
admitted_still j told h = subst (AllAdmitted j) (sym (append-nil told)) h
