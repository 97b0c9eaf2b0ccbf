-- What a client finishes in an event.
use Rattle.std.specs.Prelude.{ℕ, List, ◌++◌, Option, Some, None, map, take}
use Rattle.fs_ident.specs.declared.actor.Session.{Session}
use Rattle.fs_client.specs.declared.led.Led.{Led as TheLed}
use Rattle.fs_client.specs.declared.state.Client.{Client as ClientCore}
use Rattle.fs_ident.specs.declared.actor.Peer.TheVariants as peer
use Rattle.fs_msg.specs.declared.client_note.ClientNote.TheVariants.{Led, Shipped}
use Rattle.fs_msg.specs.declared.item.Item.{Item}
use Rattle.fs_msg.specs.declared.note.Note.{Note}
use Rattle.fs_msg.specs.declared.note.Note.TheVariants.{Client}
use Rattle.fs_server.specs.Ships.{item_of}
use Rattle.fs_actor.specs.Listed.{listed}

-- so many entries of its log are admitted, as it is told
abbrev pub shipped_count : Note → ℕ
shipped_count (Client (Shipped count e)) = count
shipped_count n = 0

-- what it had a server lead is admitted with this reply, as it is told
abbrev pub led_item : Session → Note → Option TheLed → Option Item
led_item s (Client (Led n r)) (Some l) = Some (record { by = peer.Client s; n = n; op = l.entry.op; reply = r })
led_item s n led = None

-- what it read and admitted at once, the entries at the front of its log that are admitted, and what was led, as it is told
abbrev pub finished : Session → ClientCore → Option Item → Note → List Item
finished s c read n = (listed read ++ map (item_of s) (take (shipped_count n) c.log)) ++ listed (led_item s n c.led)
