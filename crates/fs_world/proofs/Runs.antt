-- What every event keeps holds of every run.
use Rattle.std.proofs.Common.{◌≡◌, ◌+◌, List, [], ◌∷◌, ◌++◌, length, ap, sym, ◌∙◌, subst, append_assoc, length-append}
use Rattle.std.proofs.lemmas.List.{append-nil}
use Rattle.fs_schedule.specs.declared.event.Event.{Event}
use Rattle.fs_world.specs.Order.{Tale, after, first_tale, tale_of}
use Rattle.fs_world.specs.World.{Run, more, run_on, step}
use Rattle.fs_world.specs.declared.form.Form.{Form}
use Rattle.fs_world.proofs.Replies.{tale_push}

-- what holds while these events are to come, where this was told
module _ (P : List Event → Tale → Form → Type 0) where
  abbrev pub Keeps : Type 0
  Keeps = (e : Event) (es : List Event) (tale : Tale) (w : Form) → P (e ∷ es) tale w
      → P es (after e.what (step w e).outcome tale) (step w e).world

  -- the outcomes are those of the events that are done
  pub record IsAt (done es : List Event) (r : Run) : Type 0 where
    pub counted : length done ≡ length r.outcomes
    pub holds : P es (tale_of first_tale done r.outcomes) r.world

  more_keeps : Keeps → (done es : List Event) (e : Event) (r : Run) → IsAt done (e ∷ es) r → IsAt (done ++ e ∷ []) es (more r e)
  more_keeps keeps done es e r h = record {
    counted = length-append done (e ∷ []) ∙ ap (λ n. n + 1) h.counted ∙ sym (length-append r.outcomes ((step r.world e).outcome ∷ []));
    holds = subst (λ (t : Tale). P es t (step r.world e).world)
        (sym (tale_push first_tale done r.outcomes e (step r.world e).outcome h.counted))
        (keeps e es (tale_of first_tale done r.outcomes) r.world h.holds);
  }

  pub run_keeps : Keeps → (done es : List Event) (r : Run) → IsAt done es r → IsAt (done ++ es) [] (run_on r es)
  run_keeps keeps done [] r h = subst (λ ds. IsAt ds [] r) (sym (append-nil done)) h
  run_keeps keeps done (e ∷ es) r h =
      subst (λ ds. IsAt ds [] (run_on r (e ∷ es))) (append_assoc done (e ∷ []) es)
      (run_keeps keeps (done ++ e ∷ []) es (more r e) (more_keeps keeps done es e r h))
