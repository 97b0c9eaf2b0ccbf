use Rattle.std.proofs.Common.{rules, ◌≡◌, ◌∙◌, ap, sym, arith, List, ℕ, subst}
use Rattle.std.specs.BTreeMap.Range.{entries_between}
use Rattle.std.specs.declared.ops.Bound.TheVariants.{Included, Unbounded}
use Rattle.std.specs.Ordering.{nat_cmp}
use Rattle.std.specs.Cmp.Lexicographic.{slice_cmp}
use Rattle.std.specs.List.Sorted.{IsStrictlySortedBy}
use Rattle.std.specs.Map.{keys_of}
use Rattle.std.specs.FinMap.{entries}
use Rattle.std.proofs.lemmas.List.{take_all}
use Rattle.fs_ident.specs.Maps.{map_of}
use Rattle.fs_ident.specs.declared.actor.PathNo.{PathNo}
use Rattle.fs_path.specs.Index.{ByFile, are_rising, no_of_held}
use Rattle.fs_path.specs.Into.{Parts, given_names, names_from, names_there, parted_each, parts_at}
use Rattle.fs_path.proofs.GoingBehind.{parted_more, parts_rise_each}
use Rattle.fs_path.proofs.PrefixWalks.{names_walked}
use Rattle.fs_path.proofs.into.part_into.Goals as goal

pub loop-entry-init : goal.loop-entry-init
loop-entry-init c =
    let owners = c.args.map.now in
    let me = c.args.me in
    let prefix = c.args.prefix.now in
    let all : c.into_iter-entry-iterator.result ≡ c.range-entry-items.result = search rules in
    let names =
    ap (names_from owners me prefix) (all ∙ c.range-entry-items.ensures.between tt ∙ ap (λ (m : ByFile). entries_between (slice_cmp nat_cmp) (Included prefix) Unbounded m.entries) c.files.ensures)
    ∙ names_walked owners me prefix c.args.via.now.files (subst (λ (m : ByFile). IsStrictlySortedBy (slice_cmp nat_cmp) (keys_of m.entries)) c.files.ensures c.range-entry-items.ensures.ordered) in
    record {
      within = omega (arith, c.len-front.ensures, c.args.held.now.ok);
      rising = ap (are_rising no_of_held) (take_all c.len-front.result c.args.held.now.items (omega (arith, c.len-front.ensures, c.args.held.now.ok))) ∙ c.requires.rising;
      all =
          ap (λ ns. parted_each c.args.issued.now ns (parts_at c.len-front.result c.args.held.now.items)) names
          ∙ ap (λ n. parted_each c.args.issued.now (names_there owners me prefix (entries (map_of c.args.via.now.files))) (parts_at n c.args.held.now.items)) c.len-front.ensures;
    }

pub loop-entry-preserved : goal.loop-entry-preserved
loop-entry-preserved c =
    let owners = c.args.map.now in
    let me = c.args.me in
    let prefix = c.args.prefix.now in
    let entry : List ℕ × List (ℕ × PathNo) = (c.in-Some.entry.0.now, c.in-Some.entry.1.now) in
    record {
      within = omega (arith, c.part_given-front.ensures.within, c.part_given-front.new.held.ok);
      rising = ap (λ (p : Parts). are_rising no_of_held p.left) c.part_given-front.ensures.parts ∙ parts_rise_each (given_names owners me prefix entry) c.args.issued.now (parts_at c.loop-entry.front c.loop-entry.held.items) c.loop-entry.invariant.rising;
      all =
          ap (parted_each c.args.issued.now (names_from owners me prefix c.next.new.self)) c.part_given-front.ensures.parts
          ∙ sym (parted_more owners me prefix c.args.issued.now entry c.next.new.self (parts_at c.loop-entry.front c.loop-entry.held.items) (sym c.begins.ensures ∙ c.if-not-begins.false))
          ∙ ap (λ es. parted_each c.args.issued.now (names_from owners me prefix es) (parts_at c.loop-entry.front c.loop-entry.held.items)) (sym c.in-Some.ensures.steps)
          ∙ c.loop-entry.invariant.all;
    }
