-- A message of a client that asks nothing to be led tells its session no replies.
use Rattle.std.proofs.Common.{◌≡◌, List, refl}
use Rattle.fs_ident.specs.declared.actor.Session.{Session}
use Rattle.fs_msg.specs.declared.client_msg.ClientMsg.{ClientMsg}
use Rattle.fs_msg.specs.declared.client_msg.ClientMsg.TheVariants.{Lead}
use Rattle.fs_msg.specs.declared.item.Item.{Item}
use Rattle.fs_server.specs.declared.event.ServerEvent.TheVariants.{FromClient}
use Rattle.fs_serial.specs.Cluster.{replies_after}
use Rattle.fs_serial.specs.World.{IsOther}

pub replies_still : (by : Session) (m : ClientMsg) → IsOther (FromClient by m) → (items : List Item) (replied : Session → List Item)
    → replies_after (FromClient by m) items replied ≡ replied
replies_still by (Lead m) other items replied = absurd other
replies_still by m other items replied = refl
