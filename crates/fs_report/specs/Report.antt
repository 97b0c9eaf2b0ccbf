-- The lines of a report.
use Rattle.std.specs.Prelude.{ℕ, ◌+◌, List, [], ◌∷◌, ◌++◌, codes, Option, Some, None, flat_map, map, length}
use Rattle.std.specs.Fmt.{decimal}
use Rattle.std.specs.FinMap.{get, keys, len}
use Rattle.fs_ident.specs.IdText.{id_text}
use Rattle.fs_modes.specs.Letters.{acc_text, deny_text}
use Rattle.fs_model.specs.declared.node.Handle.{Handle}
use Rattle.fs_model.specs.declared.node.Node.{Node}
use Rattle.fs_model.specs.Namespace.{NodeMap}
use Rattle.fs_msg.specs.declared.item.Item.{Item}
use Rattle.fs_msg.specs.declared.note.Note.{Note}
use Rattle.fs_schedule.specs.Spelling.{kind_text}
use Rattle.fs_schedule.specs.declared.outcome.Outcome.{Outcome}
use Rattle.fs_ident.specs.Texts.{quoted, session_text, peer_text}
use Rattle.fs_report.specs.Notes.{note_text}
use Rattle.fs_report.specs.Texts.{who_text, op_text, reply_text}

-- ## Outcomes

-- the notes, parted by a semicolon and a space
abbrev pub notes_text : List Note → List ℕ
notes_text [] = []
notes_text (n ∷ ns) = note_text n ++ flat_map (λ m. codes "; " ++ note_text m) ns

-- the numbers of the packets that were sent, if there are any
abbrev pub sent_text : List ℕ → List ℕ
sent_text [] = []
sent_text (n ∷ ns) = codes " sends" ++ flat_map (λ m. 32 ∷ decimal m) (n ∷ ns)

abbrev pub outcome_text : ℕ → Outcome → List ℕ
outcome_text k o = codes "e"
    ++ (decimal k ++ (codes " " ++ (who_text o.who ++ (codes " " ++ (notes_text o.notes ++ (sent_text o.sent ++ codes "\n"))))))

-- the lines of outcomes, numbered from k
abbrev pub outcomes_text : ℕ → List Outcome → List ℕ
outcomes_text k [] = []
outcomes_text k (o ∷ os) = outcome_text k o ++ outcomes_text (k + 1) os

-- ## The journal

-- an item's line where items have no numbers
abbrev pub item_text : Item → List ℕ
item_text i = peer_text i.by
    ++ (codes " " ++ (decimal i.n ++ (codes " " ++ (op_text i.op ++ (codes " " ++ (reply_text i.reply ++ codes "\n"))))))

-- the line of the item of number k
abbrev pub item_line : ℕ → Item → List ℕ
item_line k i = codes "j" ++ (decimal k ++ (codes " " ++ item_text i))

-- the lines of items, numbered from k
abbrev pub items_text : ℕ → List Item → List ℕ
items_text k [] = []
items_text k (i ∷ is) = item_line k i ++ items_text (k + 1) is

-- ## The namespace

-- a handle's line, without its line feed
abbrev pub handle_line : List ℕ → Handle → List ℕ
handle_line id x = codes "h "
    ++ (id_text id ++ (codes " "
    ++ (session_text x.session ++ (codes " " ++ (decimal x.h ++ (codes " " ++ (acc_text x.modes ++ (codes " " ++ deny_text x.modes))))))))

-- the directory and the name, for all but the root
abbrev pub parent_text : Option (List ℕ × List ℕ) → List ℕ
parent_text None = []
parent_text (Some p) = codes " in " ++ (id_text p.0 ++ (codes " " ++ quoted p.1))

-- a node's line, without its line feed
abbrev pub node_line : List ℕ → Node → List ℕ
node_line id n = codes "n "
    ++ (id_text id ++ (codes " "
    ++ (kind_text n.kind ++ (codes " " ++ (decimal n.size ++ (codes " " ++ (decimal n.stamp ++ parent_text n.parent)))))))

-- a node's line and those of its handles
abbrev pub file_lines : List ℕ → Option Node → List (List ℕ)
file_lines id None = []
file_lines id (Some n) = node_line id n ∷ map (handle_line id) n.handles

-- the lines of the namespace, by identifier
abbrev pub space_lines : NodeMap → List (List ℕ)
space_lines m = flat_map (λ id. file_lines id (get m id)) (keys m)

-- a line and its line feed
abbrev pub ended : List ℕ → List ℕ
ended line = line ++ codes "\n"

abbrev pub file_text : List ℕ → Option Node → List ℕ
file_text id file = flat_map ended (file_lines id file)

-- the same lines as bytes
abbrev pub space_text : NodeMap → List ℕ
space_text m = flat_map (λ id. file_text id (get m id)) (keys m)

-- ## The last line

abbrev pub done_text : ℕ → ℕ → ℕ → List ℕ
done_text events journal nodes =
    codes "done events "
    ++ (decimal events ++ (codes " journal " ++ (decimal journal ++ (codes " nodes " ++ (decimal nodes ++ codes "\n")))))

-- the whole report
abbrev pub report_text : List Outcome → List Item → NodeMap → List ℕ
report_text outcomes journal m =
    outcomes_text 1 outcomes ++ (items_text 1 journal ++ (space_text m ++ done_text (length outcomes) (length journal) (len m)))
