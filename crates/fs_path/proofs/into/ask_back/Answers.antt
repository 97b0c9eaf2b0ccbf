use Rattle.std.proofs.Common.{◌≡◌, ◌∙◌, ap, arith, length, map, subst, sym, vec_len}
use Rattle.std.specs.FinMap.{entries}
use Rattle.fs_ident.specs.Maps.{map_of}
use Rattle.fs_path.specs.Index.{at_own}
use Rattle.fs_path.specs.Into.{HasLeases, Parts, names_there, parted_each, parts_at}
use Rattle.fs_path.specs.Tables.{lease_of}
use Rattle.fs_path.proofs.GoingBehind.{ArePartsOf, has_held, has_leases, left_into, parts_into}
use Rattle.fs_path.proofs.Over.{over_rises}
use Rattle.fs_path.proofs.PrefixWalks.{held_rises}
use Rattle.fs_path.proofs.into.ask_back.Goals as goal

pub part_into-front-requires-clause-rising : goal.part_into-front-requires-clause-rising
part_into-front-requires-clause-rising c = held_rises c.args.had.now.via c.args.held.now.items c.requires.had.1 (sym c.is_whole.ensures ∙ c.if-is_whole.true)

pub let_go_behind-requires-clause-own : goal.let_go_behind-requires-clause-own
let_go_behind-requires-clause-own c = over_rises c.args.had.now.own (map at_own c.args.held.now.items) c.requires.had.0

pub let_go_behind-requires-clause-via : goal.let_go_behind-requires-clause-via
let_go_behind-requires-clause-via c = over_rises c.args.had.now.via (map lease_of c.args.held.now.items) c.requires.had.1

pub returns-then-is_whole-clause-held : goal.returns-then-is_whole-clause-held
returns-then-is_whole-clause-held c =
    let held = c.args.held.now.items in
    let owners = c.args.map.now in
    let me = c.args.me in
    let prefix = c.args.prefix.now in
    let via = c.args.had.now.via in
    let long : vec_len c.args.held.now ≡ length held = omega (arith, c.args.held.now.ok) in
    c.let_go_behind.ensures.held
    ∙ ap (λ (p : Parts). p.left) c.part_into-front.ensures.parts
    ∙ ap (λ n. (parted_each c.args.issued.now (names_there owners me prefix (entries (map_of via.files))) (parts_at n held)).left) long
    ∙ left_into owners me prefix via c.args.issued.now held c.requires.had.1 (sym c.is_whole.ensures ∙ c.if-is_whole.true)

pub returns-then-is_whole-clause-had : goal.returns-then-is_whole-clause-had
returns-then-is_whole-clause-had c =
    let held = c.args.held.now.items in
    let owners = c.args.map.now in
    let me = c.args.me in
    let prefix = c.args.prefix.now in
    let via = c.args.had.now.via in
    let long : length held ≡ vec_len c.args.held.now = omega (arith, c.args.held.now.ok) in
    let names = names_there owners me prefix (entries (map_of via.files)) in
    let rises = held_rises via held c.requires.had.1 (sym c.is_whole.ensures ∙ c.if-is_whole.true) in
    let parts : ArePartsOf (parts_at c.part_into-front.result c.part_into-front.new.held.items) (map lease_of held) =
    subst (λ p. ArePartsOf p (map lease_of held)) (ap (λ n. parted_each c.args.issued.now names (parts_at n held)) long ∙ sym c.part_into-front.ensures.parts) (parts_into names c.args.issued.now held rises) in
    let has = c.let_go_behind.ensures.had (map lease_of held) parts.gone (has_leases c.args.had.now held c.requires.had) in
    has_held c.let_go_behind.new.had c.let_go_behind.new.held.items
    (subst (HasLeases c.let_go_behind.new.had) (sym (ap (map lease_of) c.let_go_behind.ensures.held ∙ parts.left)) has)
