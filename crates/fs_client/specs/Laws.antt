-- What the laws of a client say.
use Rattle.std.specs.Prelude.{◌≡◌, ◌⊎◌, ℕ, ◌+◌, Option, Some, None}
use Rattle.fs_model.specs.declared.op.Op.{Op}
use Rattle.fs_model.specs.declared.reply.Reply.{Reply}
use Rattle.fs_msg.specs.declared.act.Act.{Act}
use Rattle.fs_msg.specs.declared.act.Act.TheVariants.{ReadNow, Replied}
use Rattle.fs_msg.specs.declared.client_note.ClientNote.{ClientNote}
use Rattle.fs_msg.specs.declared.client_note.ClientNote.TheVariants.{Shipped, LedAgain, LedEnded}
use Rattle.fs_msg.specs.declared.client_note.ClientNote.TheVariants as note
use Rattle.fs_view.specs.View.{reply_in}
use Rattle.fs_client.specs.Answers.{over_after}
use Rattle.fs_client.specs.declared.led.Led.{Led}
use Rattle.fs_client.specs.declared.plan.Plan.{Plan}
use Rattle.fs_client.specs.declared.state.Client.{Client}

-- the refused entry, as the note tells of one: none but the answer to a log does
abbrev pub over_told : ClientNote → Option ℕ → Option ℕ
over_told (Shipped count e) over = over_after e over
over_told n over = over

-- what is led, as the note tells of its end: none but its answers do
abbrev pub led_told : ClientNote → Option Led → Option Led
led_told (note.Led n r) led = None
led_told (LedAgain why) led = None
led_told (LedEnded lease until now) led = None
led_told n led = led

-- the next number, as the note tells of one that was used up: no answer does but that a led operation is done
abbrev pub next_told : ClientNote → ℕ → ℕ
next_told (note.Led n r) next = next + 1
next_told n next = next

-- the operation gets the reply that its leases tell, with the client's next number, and no message is made
pub record IsAnswered (c : Client) (o : Op) (p : Plan Act) : Type 0 where
  pub reply : Reply
  pub known : reply_in c.view c.last o ≡ Some reply
  pub told : (p.out.note ≡ Replied c.next reply) ⊎ (p.out.note ≡ ReadNow c.next reply)
  pub silent : p.out.send ≡ None
