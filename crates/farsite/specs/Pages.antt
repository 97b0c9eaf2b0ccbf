-- What the program tells of itself.
use Rattle.std.specs.Prelude.{ℕ, List, [], ◌∷◌, ◌++◌, Option, Some, None, codes, if◌then◌else◌}
use Rattle.fs_words.specs.Usage.{is_word}
use Rattle.farsite.specs.declared.page.Page.{Page}
use Rattle.farsite.specs.declared.page.Page.TheVariants.{Help, Version}

-- what the program tells of itself, where the only word asks for it
abbrev pub page_of : List (List ℕ) → Option Page
page_of [] = None
page_of (w ∷ []) = if is_word w (codes "--help") then Some Help else (if is_word w (codes "--version") then Some Version else None)
page_of (w ∷ (v ∷ ws)) = None

-- the text of a page, each of its lines with a line feed
abbrev pub page_text : Page → List ℕ
page_text Help =
    codes "usage: farsite replay < SCHEDULE\n       farsite journal < SCHEDULE\n"
    ++ codes "       farsite gen N\n"
    ++ codes "       farsite node ACTOR SERVERS SKEW TERM TURNS PEER.. < SCRIPT\n\n"
    ++ codes "Reads a schedule and runs it. `replay` writes its report: an outcome for each event, the\n"
    ++ codes "journal, and the namespace at the end. `journal` writes the journal and the namespace in JSON.\n"
    ++ codes "`gen` makes a schedule from a number, runs it, and writes one line with what it counted.\n"
    ++ codes "`node` runs one server or client over UDP with a script, and writes each operation that it ends.\n"
page_text Version = codes "farsite 0.1.0\n"
