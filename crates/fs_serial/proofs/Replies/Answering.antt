-- How a client answers an operation whose reply it knows.
use Rattle.std.proofs.Common.{◌≡◌, ℕ, not, ◌&&◌, Bool, true, false, List, [], cond, refl}
use Rattle.std.proofs.lemmas.Bool.{not-true}
use Rattle.std.specs.Prelude.{Option, Some, None, is_some}
use Rattle.fs_ident.specs.declared.kind.Kind.{Kind}
use Rattle.fs_ident.proofs.Booleans.{both}
use Rattle.fs_ident.proofs.Options.{not_some}
use Rattle.fs_parcel.proofs.Installed.{empty_is}
use Rattle.fs_model.specs.Asking.{home_of}
use Rattle.fs_model.specs.Sound.{is_change}
use Rattle.fs_model.specs.Step.{is_empty}
use Rattle.fs_model.specs.declared.op.Op.{Op}
use Rattle.fs_model.specs.declared.reply.Reply.{Reply}
use Rattle.fs_msg.specs.declared.act.Act.{Act}
use Rattle.fs_msg.specs.declared.act.Act.TheVariants as act
use Rattle.fs_msg.specs.declared.act.Busy.{Busy}
use Rattle.fs_msg.specs.declared.act.Busy.TheVariants as busy
use Rattle.fs_record.specs.Effects.{tells_its_effects}
use Rattle.fs_client.specs.Acts.{answers, answers_move, answers_plain, hinted, leads, leads_on, leads_or_waits, led_with, reads, reads_or_waits, replies, stays}
use Rattle.fs_client.specs.Led.{is_led, moved_known}
use Rattle.fs_client.specs.declared.plan.Plan.{Plan}
use Rattle.fs_client.specs.declared.state.Client.{Client}
use Rattle.fs_view.specs.View.{known_by}

-- it is an entry of the log then; or a read, of a plain operation or of a delete or rename; or led; or it waits
pub data AnswerEnds (o : Op) (r : Reply) (c : Client) : Plan Act → Type 0 where
  as_entry : tells_its_effects o ≡ true → AnswerEnds o r c (replies o r c)
  as_read : tells_its_effects o ≡ true → is_change r ≡ false → c.log ≡ [] → AnswerEnds o r c (reads o r c)
  as_move : tells_its_effects o ≡ false → is_led o r ≡ false → c.log ≡ [] → AnswerEnds o r c (reads o r c)
  as_led : tells_its_effects o ≡ false → is_led o r ≡ true → c.exchange ≡ None → c.log ≡ [] → (moved : List ℕ × Kind) → moved_known (known_by c.view c.last) o ≡ Some moved
      → AnswerEnds o r c (leads (hinted c (home_of o)) (led_with o r moved c) c)
  put_off : (what : Busy) → AnswerEnds o r c (stays (act.Busy what) c)
  not_told : AnswerEnds o r c (stays (act.NoIds []) c)

module _ (o : Op) (r : Reply) (c : Client) where
  plain_ends : tells_its_effects o ≡ true → AnswerEnds o r c (answers_plain o r c)
  plain_ends t = by (not (is_change r) && is_empty c.log) refl
    where
      by : (b : Bool) → (not (is_change r) && is_empty c.log) ≡ b → AnswerEnds o r c (cond b (reads o r c) (replies o r c))
      by true e = let p = both (not (is_change r)) (is_empty c.log) e in as_read t (not-true (is_change r) p.0) (empty_is c.log p.1)
      by false e = as_entry t

  led_ends : tells_its_effects o ≡ false → is_led o r ≡ true → (asks here : Bool) → is_some c.exchange ≡ asks → is_empty c.log ≡ here → (known : Option (List ℕ × Kind)) → moved_known (known_by c.view c.last) o ≡ known
      → AnswerEnds o r c (cond asks (stays (act.Busy busy.Exchange) c) (cond here (leads_on known o r c) (stays (act.Busy busy.Log) c)))
  led_ends t l true here x h known k = put_off busy.Exchange
  led_ends t l false false x h known k = put_off busy.Log
  led_ends t l false true x h None k = not_told
  led_ends t l false true x h (Some moved) k = as_led t l (not_some c.exchange x) (empty_is c.log h) moved k

  read_ends : tells_its_effects o ≡ false → is_led o r ≡ false → (here : Bool) → is_empty c.log ≡ here → AnswerEnds o r c (cond here (reads o r c) (stays (act.Busy busy.Log) c))
  read_ends t l true h = as_move t l (empty_is c.log h)
  read_ends t l false h = put_off busy.Log

  move_ends : tells_its_effects o ≡ false → AnswerEnds o r c (answers_move o r c)
  move_ends t = by (is_led o r) refl
    where
      by : (b : Bool) → is_led o r ≡ b → AnswerEnds o r c (cond b (leads_or_waits o r c) (reads_or_waits o r c))
      by true l = led_ends t l (is_some c.exchange) (is_empty c.log) refl refl (moved_known (known_by c.view c.last) o) refl
      by false l = read_ends t l (is_empty c.log) refl

  pub answer_ends : AnswerEnds o r c (answers o r c)
  answer_ends = by (tells_its_effects o) refl
    where
      by : (b : Bool) → tells_its_effects o ≡ b → AnswerEnds o r c (cond b (answers_plain o r c) (answers_move o r c))
      by true t = plain_ends t
      by false t = move_ends t
