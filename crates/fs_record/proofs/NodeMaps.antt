-- Records without their next numbers.
use Rattle.std.proofs.Common.{◌≡◌, ℕ, List, [], ◌∷◌, Bool, true, false, refl, ap, sym, ◌∙◌, cond}
use Rattle.std.specs.Prelude.{Option, Some, map}
use Rattle.std.specs.Ordering.{nat_cmp, eq_by_cmp}
use Rattle.std.specs.Cmp.Lexicographic.{slice_cmp, nat_list_cmp_total}
use Rattle.std.specs.FinMap.{get, entries, find, get-entries, get-from_entries, same_map}
use Rattle.fs_field.specs.declared.effect.Effect.{Effect}
use Rattle.fs_record.specs.declared.record.Record.{Record}
use Rattle.fs_record.specs.Records.{RecordMap, nodes_of, node_of}
use Rattle.fs_field.specs.After.{changed_file}
use Rattle.fs_record.specs.Applied.{node_change, record_change, records_after, nodes_after, with_at}
use Rattle.fs_ident.proofs.MapsOf.{anti}
use Rattle.fs_record.proofs.Kept.{get_with_at}
use Rattle.fs_record.proofs.ValueChanges.{change_node}

chosen : (b : Bool) (o p : Option Record) → node_of (cond b o p) ≡ cond b (node_of o) (node_of p)
chosen true o p = refl
chosen false o p = refl

find_node : (q : List ℕ) (es : List (List ℕ × Record)) → find (slice_cmp nat_cmp) q (map (λ e. (e.0, e.1.node)) es) ≡ node_of (find (slice_cmp nat_cmp) q es)
find_node q [] = refl
find_node q (e ∷ es) = ap (cond (eq_by_cmp (slice_cmp nat_cmp) q e.0) (Some e.1.node)) (find_node q es) ∙ sym (chosen (eq_by_cmp (slice_cmp nat_cmp) q e.0) (Some e.1) (find (slice_cmp nat_cmp) q es))

pub node_there : (m : RecordMap) (id : List ℕ) → get (nodes_of m) id ≡ node_of (get m id)
node_there m id = get-from_entries nat_list_cmp_total (map (λ e. (e.0, e.1.node)) (entries m)) id ∙ find_node id (entries m) ∙ ap node_of (sym (get-entries m id))

-- what stands at an identifier, without its next number
pub node_with_at : (m : RecordMap) (k : List ℕ) (o : Option Record) → nodes_of (with_at m k o) ≡ with_at (nodes_of m) k (node_of o)
node_with_at m k o = same_map nat_list_cmp_total anti _ _ (λ q.
    node_there (with_at m k o) q
    ∙ ap node_of (get_with_at m k o q)
    ∙ chosen (eq_by_cmp (slice_cmp nat_cmp) q k) o (get m q)
    ∙ ap (cond (eq_by_cmp (slice_cmp nat_cmp) q k) (node_of o)) (sym (node_there m q))
    ∙ sym (get_with_at (nodes_of m) k (node_of o) q))

pub nodes_alike : (m : RecordMap) (e : Effect) → nodes_of (records_after m e) ≡ nodes_after (nodes_of m) e
nodes_alike m e =
    node_with_at m (changed_file e) (record_change e (get m (changed_file e)))
    ∙ ap (with_at (nodes_of m) (changed_file e)) (change_node e (get m (changed_file e)) ∙ ap (node_change e) (sym (node_there m (changed_file e))))
