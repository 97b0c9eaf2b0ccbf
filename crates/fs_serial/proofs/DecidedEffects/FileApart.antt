-- A file that moves or goes is none of the directories of its names.
use Rattle.std.proofs.Common.{◌≡◌, ℕ, suc, ◌&&◌, ◌||◌, Bool, true, false, not, List, [], ◌∷◌, refl, sym, ap, ◌∙◌}
use Rattle.std.specs.Prelude.{Option, Some, None}
use Rattle.std.specs.Option.{option_map_or}
use Rattle.std.specs.FinMap.{get, len}
use Rattle.fs_ident.specs.Ident.{same}
use Rattle.fs_ident.specs.declared.actor.Session.{Session}
use Rattle.fs_ident.proofs.Booleans.{neither}
use Rattle.fs_ident.proofs.Same.{same_is, same_self}
use Rattle.fs_model.specs.Ancestors.{ancestors, ancestors_within, directory_of, is_among}
use Rattle.fs_model.specs.Asking.{home_of}
use Rattle.fs_model.specs.Namespace.{NodeMap}
use Rattle.fs_model.specs.Sound.{IsSound, child_of, parent_of}
use Rattle.fs_model.specs.Step.{rename}
use Rattle.fs_model.specs.declared.node.Node.{Node}
use Rattle.fs_model.specs.declared.op.Op.{Op}
use Rattle.fs_model.specs.declared.op.Op.TheVariants as op
use Rattle.fs_model.specs.declared.reply.Reply.{Reply}
use Rattle.fs_model.specs.declared.reply.Reply.TheVariants as reply
use Rattle.fs_model.proofs.SoundRuns.{all_listed, own_ancestor}
use Rattle.fs_client.specs.Led.{is_led}
use Rattle.fs_record.specs.Records.{RecordMap, nodes_of}
use Rattle.fs_txn.specs.Parts.{source_of}
use Rattle.fs_view.specs.LedLaws.{IsLed}
use Rattle.fs_serial.proofs.Lists.Journals.{same_symm}
use Rattle.fs_serial.proofs.LedOperations.Cycles.{off_chain}

-- the file is neither the directory of the operation's home nor the one that it leaves
abbrev pub IsFileApart : Op → List ℕ → Type 0
IsFileApart o file = (same file (home_of o) ≡ false) × (same file (source_of o) ≡ false)

in_place : (o : Option Node) (dir name : List ℕ) → parent_of o ≡ Some (dir, name) → directory_of o ≡ Some dir
in_place None dir name h = absurd (cc)
in_place (Some n) dir name h = ap (λ (p : Option (List ℕ × List ℕ)). directory_of (Some (record n { parent = p }))) h

-- no file stands in itself
off_directory : (m : NodeMap) (dir name file : List ℕ) → IsSound m → child_of (get m dir) name ≡ Some file → same file dir ≡ false
off_directory m dir name file sound named = go (same file dir) refl
  where
    itself_above : file ≡ dir → is_among file (dir ∷ ancestors m dir) ≡ true
    itself_above e = ap (λ b. b || is_among file (ancestors m dir)) (ap (λ x. same x file) (sym e) ∙ same_self file)

    go : (b : Bool) → same file dir ≡ b → b ≡ false
    go false t = refl
    go true t =
        let place : parent_of (get m file) ≡ Some (dir, name) = (sound.tree.agreeing dir name file).0 named in
        let above : is_among file (ancestors_within (suc (len m)) m file) ≡ true =
        ap (λ o. is_among file (option_map_or (λ d. d ∷ ancestors_within (len m) m d) o [])) (in_place (get m file) dir name place)
        ∙ itself_above (same_is file dir t) in
        let listed : is_among file (ancestors m file) ≡ true = all_listed m file file (suc (len m)) sound above in
        let wrong : true ≡ false = sym listed ∙ own_ancestor m file sound in absurd (cc)

-- nor is it the directory to which it goes: this would be a cycle
off_target : (m : NodeMap) (sdir sname ddir dname file : List ℕ) → (same sdir ddir && same sname dname) ≡ false
    → child_of (get m sdir) sname ≡ Some file → (rename (get m sdir) m sdir sname ddir dname).reply ≡ reply.Renamed → same file ddir ≡ false
off_target m sdir sname ddir dname file other c h =
    same_symm file ddir
    ∙ (neither (same ddir file) (is_among file (ancestors m ddir))
    (off_chain m sdir sname ddir dname file other (get m sdir) c h)).0

elsewhere : (b : Bool) → not b ≡ true → b ≡ false
elsewhere true h = absurd (cc)
elsewhere false h = refl

pub file_apart : (m : RecordMap) (by : Session) (o : Op) (file : List ℕ) (r : Reply) → IsLed m by o file r → is_led o r ≡ true
    → IsFileApart o file
file_apart m by (op.Delete dir name) file r h is =
    let off : same file dir ≡ false = off_directory (nodes_of m) dir name file h.space h.named in
    (off, off)
file_apart m by (op.Rename sdir sname ddir dname) file r h is = (
  off_target (nodes_of m) sdir sname ddir dname file (elsewhere (same sdir ddir && same sname dname) h.moves) h.named
      (h.reply ∙ renamed r is),
  off_directory (nodes_of m) sdir sname file h.space h.named,
)
  where
    renamed : (x : Reply) → is_led (op.Rename sdir sname ddir dname) x ≡ true → x ≡ reply.Renamed
    renamed reply.Renamed g = refl
    renamed x g = absurd (cc)
file_apart m by (op.Lookup dir name) file r h is = let p = h.moves in absurd (cc)
file_apart m by (op.List dir) file r h is = let p = h.moves in absurd (cc)
file_apart m by (op.Kind f) file r h is = let p = h.moves in absurd (cc)
file_apart m by (op.Info f) file r h is = let p = h.moves in absurd (cc)
file_apart m by (op.Create dir name k id) file r h is = let p = h.moves in absurd (cc)
file_apart m by (op.OpenFile f n modes) file r h is = let p = h.moves in absurd (cc)
file_apart m by (op.Close f n) file r h is = let p = h.moves in absurd (cc)
file_apart m by (op.Set f n size stamp) file r h is = let p = h.moves in absurd (cc)
file_apart m by (op.Reap f session) file r h is = let p = h.moves in absurd (cc)
