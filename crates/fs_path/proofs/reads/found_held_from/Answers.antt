use Rattle.std.proofs.Common.{ap, sym, ◌∙◌, ℕ}
use Rattle.std.specs.Prelude.{Some, option_map}
use Rattle.fs_ident.specs.declared.actor.PathNo.{PathNo}
use Rattle.fs_path.specs.Returns.{is_of}
use Rattle.fs_path.specs.Tables.{lease_of}
use Rattle.fs_path.specs.declared.having.Having.{Having}
use Rattle.fs_path.proofs.Rising.{find_none, find_place}
use Rattle.fs_path.proofs.reads.found_held_from.Goals as goal

pub returns-in-Some : goal.returns-in-Some
returns-in-Some c =
    ap Some (ap (λ (n : ℕ × PathNo). n.0) c.named_to_peer.ensures ∙ ap (λ (h : Having). (lease_of h).peer) c.index-held-at.is)
    ∙ sym (ap (λ o. option_map (λ (h : Having). (lease_of h).peer) o) (find_place (is_of c.args.no) c.args.held.now c.in-Some.at c.index-held-at.result c.in-Some.ensures))

pub returns-in-None : goal.returns-in-None
returns-in-None c = sym (ap (λ o. option_map (λ (h : Having). (lease_of h).peer) o) (find_none (is_of c.args.no) c.args.held.now c.in-None.ensures))
