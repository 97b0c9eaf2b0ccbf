-- The values of JSON that stand for a journal and a namespace.
use Rattle.std.specs.Prelude.{ℕ, List, codes, map}
use Rattle.serde_json.specs.Data.{Data, object, member, no_members, string, number, unsigned, array}
use Rattle.serde_json.specs.View.{items_of}
use Rattle.fs_ident.specs.Texts.{peer_text}
use Rattle.fs_model.specs.Namespace.{NodeMap}
use Rattle.fs_msg.specs.declared.item.Item.{Item}
use Rattle.fs_report.specs.Report.{space_lines}
use Rattle.fs_report.specs.Texts.{op_text, reply_text}

abbrev pub item_value : Item → Data
item_value i = object
    (member (codes "by") (string (peer_text i.by))
    (member (codes "n") (number (unsigned i.n))
    (member (codes "op") (string (op_text i.op)) (member (codes "reply") (string (reply_text i.reply)) no_members))))

abbrev pub journal_value : List Item → NodeMap → Data
journal_value journal m =
    object (member (codes "journal") (array (items_of (map item_value journal)))
    (member (codes "space") (array (items_of (map string (space_lines m)))) no_members))
