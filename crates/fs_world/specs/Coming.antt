-- What sessions were told of their items: all of them, but for the reply of an operation that a server led, while it is on its way or is
-- owed until all is done.
use Rattle.std.specs.Prelude.{◌≡◌, List, [], ◌∷◌, ◌++◌, Option, Some}
use Rattle.fs_ident.specs.declared.actor.Peer.TheVariants.{Client}
use Rattle.fs_ident.specs.declared.actor.Session.{Session}
use Rattle.fs_model.specs.declared.reply.Reply.{Reply}
use Rattle.fs_msg.specs.declared.answer.Answer.{Answer}
use Rattle.fs_msg.specs.declared.answer.Answer.TheVariants.{Led as Ended}
use Rattle.fs_msg.specs.declared.item.Item.{Item}
use Rattle.fs_record.specs.declared.led_end.LedEnd.TheVariants as end
use Rattle.fs_client.specs.declared.led.Led.{Led}
use Rattle.fs_serial.specs.World.{Ends}
use Rattle.fs_world.specs.Order.{AreAsTold, ReplyGiven}

-- what is led, as the journal has it
abbrev pub led_item : Session → Led → Reply → Item
led_item x l r = record { by = Client x; n = l.entry.n; op = l.entry.op; reply = r }

-- the items that the answers end, where that is led
abbrev pub item_with : Session → Option Led → Answer → List Item
item_with x (Some l) (Ended (end.Done r)) = led_item x l r ∷ []
item_with x led a = []

abbrev pub items_with : Session → Option Led → List Answer → List Item
items_with x led [] = []
items_with x led (a ∷ rest) = item_with x led a ++ items_with x led rest

-- these items are what was told, one for one, and then what is on its way or owed
pub record IsTold (x : Session) (e : Ends) (items : List Item) (all : List ReplyGiven) : Type 0 where
  pub front : List Item
  pub split : items ≡ front ++ items_with x e.client.led e.down
  pub told : AreAsTold front all
