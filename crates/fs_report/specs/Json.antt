-- A journal and a namespace in JSON.
use Rattle.std.specs.Prelude.{ℕ, List, [], ◌∷◌, ◌++◌, codes, flat_map, map}
use Rattle.std.specs.Fmt.{decimal}
use Rattle.json.specs.Print.{quoted}
use Rattle.fs_ident.specs.Texts.{peer_text}
use Rattle.fs_model.specs.Namespace.{NodeMap}
use Rattle.fs_msg.specs.declared.item.Item.{Item}
use Rattle.fs_report.specs.Report.{space_lines}
use Rattle.fs_report.specs.Texts.{op_text, reply_text}

-- an item: an object with the actor, the number of its operation, the operation and the reply
abbrev pub item_json : Item → List ℕ
item_json i = codes "{\"by\":"
    ++ (quoted (peer_text i.by)
    ++ (codes ",\"n\":" ++
    (decimal i.n ++ (codes ",\"op\":" ++ (quoted (op_text i.op) ++ (codes ",\"reply\":" ++ (quoted (reply_text i.reply) ++ codes "}")))))))

-- texts, parted by commas
abbrev pub parted : List (List ℕ) → List ℕ
parted [] = []
parted (t ∷ ts) = t ++ flat_map (λ u. 44 ∷ u) ts

-- an object with the items of the journal and the lines of the namespace, and a line feed
abbrev pub journal_json : List Item → NodeMap → List ℕ
journal_json journal m =
    codes "{\"journal\":["
    ++ (parted (map item_json journal) ++ (codes "],\"space\":[" ++ (parted (map quoted (space_lines m)) ++ codes "]}\n")))
