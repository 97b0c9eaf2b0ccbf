-- What a delete or a rename does: the file that moves has its place, and one that goes has nothing in it.
use Rattle.std.proofs.Common.{◌≡◌, ℕ, List, [], ◌∷◌, refl, sym, ap, ◌∙◌, subst, inl, inr}
use Rattle.std.specs.Prelude.{Option, Some, None}
use Rattle.std.specs.FinMap.{get}
use Rattle.fs_ident.specs.In.{In}
use Rattle.fs_ident.specs.declared.actor.Session.{Session}
use Rattle.fs_field.specs.declared.effect.Effect.{Effect}
use Rattle.fs_field.specs.declared.effect.Effect.TheVariants.{SetChild, SetParent, NewNode, RemoveNode, AddHandle, RemoveHandle, SetInfo}
use Rattle.fs_model.specs.Namespace.{NodeMap}
use Rattle.fs_model.specs.Sound.{parent_of}
use Rattle.fs_model.specs.Step.{children_of}
use Rattle.fs_model.specs.declared.node.Node.{Node}
use Rattle.fs_model.specs.declared.op.Op.{Op}
use Rattle.fs_model.specs.declared.reply.Reply.{Reply}
use Rattle.fs_record.specs.Applied.{node_change, records_after_all}
use Rattle.fs_record.specs.LedEffects.{led_effects}
use Rattle.fs_record.specs.Records.{RecordMap, node_of, nodes_of}
use Rattle.fs_record.specs.ValueOf.{handles_of}
use Rattle.fs_record.proofs.NodeMaps.{node_there}
use Rattle.fs_txn.specs.Decided.{ChangesOther, IsApart, IsDecided}
use Rattle.fs_view.specs.LedLaws.{IsLed}
use Rattle.fs_view.proofs.LedValues.{IsRemoval, each_led}
use Rattle.fs_serial.proofs.DecidedEffects.ToldParts.{IsPutIn}
use Rattle.fs_serial.proofs.DecidedEffects.Underway.{PlaceStays, node_changed, place_past}

-- what is apart from the going of a file is on other files
pub beside : (d : Effect) (f : List ℕ) → IsDecided d → IsApart d (RemoveNode f) → IsApart (RemoveNode f) d
beside (SetChild a b None) f k apart s = apart (sym s)
beside (SetParent a b c) f k apart s = apart (sym s)
beside (RemoveNode a) f k apart s = apart (sym s)
beside (SetChild a b (Some z)) f k apart s = absurd k
beside (NewNode a b c z) f k apart s = absurd k
beside (AddHandle a b c z) f k apart s = absurd k
beside (RemoveHandle a b c) f k apart s = absurd k
beside (SetInfo a b c) f k apart s = absurd k

-- what has its place keeps it where the place stays
pub put_past : (held then : NodeMap) (e : Effect) → PlaceStays held then e → IsPutIn held e → IsPutIn then e
put_past held then (SetParent f d n) stays put = stays ∙ put
put_past held then (SetChild a b z) stays put = tt
put_past held then (NewNode a b z n) stays put = tt
put_past held then (RemoveNode a) stays put = tt
put_past held then (AddHandle a b z n) stays put = tt
put_past held then (RemoveHandle a b z) stays put = tt
put_past held then (SetInfo a b z) stays put = tt

-- a node that has a place gets this one
moved_place : (file dir name : List ℕ) (o : Option Node) (p : List ℕ × List ℕ) → parent_of o ≡ Some p
    → parent_of (node_change (SetParent file dir name) o) ≡ Some (dir, name)
moved_place file dir name None p h = absurd (cc h)
moved_place file dir name (Some n) p h = refl

module _ (m : RecordMap) where
  abbrev nodes : NodeMap
  nodes = nodes_of m

  -- each file that the effects put has its place then
  abbrev pub ArePut : List Effect → Type 0
  ArePut es = (e : Effect) → In e es → IsPutIn (nodes_of (records_after_all m es)) e

  -- each file that goes by them has nothing in it, and nobody has it open
  abbrev pub AreBare : List Effect → Type 0
  AreBare es = (f : List ℕ) → In (RemoveNode f) es → (children_of (get nodes f) ≡ []) × (handles_of (get nodes f) ≡ [])

  module _ (file : List ℕ) where
    put_removal : (dir name : List ℕ) (e : Effect) → In e (SetChild dir name None ∷ RemoveNode file ∷ [])
        → (then : NodeMap) → IsPutIn then e
    put_removal dir name e (inl q) then = subst (IsPutIn then) (sym q) tt
    put_removal dir name e (inr (inl q)) then = subst (IsPutIn then) (sym q) tt
    put_removal dir name e (inr (inr z)) then = absurd z

    bare_removal : (dir name : List ℕ) → IsRemoval nodes dir name file → AreBare (SetChild dir name None ∷ RemoveNode file ∷ [])
    bare_removal dir name r f (inl q) = let wrong : RemoveNode f ≡ SetChild dir name None = q in absurd (cc wrong)
    bare_removal dir name r f (inr (inl q)) =
        let wrong : RemoveNode f ≡ RemoveNode file = q in
        let is : file ≡ f = cc in
        subst (λ x. (children_of (get nodes x) ≡ []) × (handles_of (get nodes x) ≡ [])) is (r.childless, r.unused)
    bare_removal dir name r f (inr (inr z)) = absurd z

    module _ (sdir sname ddir dname : List ℕ) where
      abbrev link : Effect
      link = SetChild ddir dname (Some file)

      abbrev cut : Effect
      cut = SetChild sdir sname None

      abbrev place : Effect
      place = SetParent file ddir dname

      placed_then : parent_of (get nodes file) ≡ Some (sdir, sname)
          → parent_of (get (nodes_of (records_after_all m (link ∷ cut ∷ place ∷ []))) file) ≡ Some (ddir, dname)
      placed_then was =
          let two : RecordMap = records_after_all m (link ∷ cut ∷ []) in
          let off : (e : Effect) → In e (link ∷ cut ∷ []) → IsApart place e = λ e i s. elim i as (λ _. ChangesOther place e) [
            | inl q ↦ subst (ChangesOther place) (sym q) tt
            | inr j ↦ elim j as (λ _. ChangesOther place e) [ inl q ↦ subst (ChangesOther place) (sym q) tt | inr z ↦ absurd z ]
          ] in
          ap parent_of (node_there (records_after_all m (link ∷ cut ∷ place ∷ [])) file)
          ∙ ap parent_of (node_changed two place)
          ∙ moved_place file ddir dname (node_of (get two file)) (sdir, sname)
          (sym (ap parent_of (node_there two file)) ∙ place_past m place (link ∷ cut ∷ []) off ∙ was)

      put_moving : parent_of (get nodes file) ≡ Some (sdir, sname) → ArePut (link ∷ cut ∷ place ∷ [])
      put_moving was e (inl q) = subst (IsPutIn _) (sym q) tt
      put_moving was e (inr (inl q)) = subst (IsPutIn _) (sym q) tt
      put_moving was e (inr (inr (inl q))) = subst (IsPutIn _) (sym q) (placed_then was)
      put_moving was e (inr (inr (inr z))) = absurd z

      bare_moving : AreBare (link ∷ cut ∷ place ∷ [])
      bare_moving f (inl q) = let wrong : RemoveNode f ≡ link = q in absurd (cc wrong)
      bare_moving f (inr (inl q)) = let wrong : RemoveNode f ≡ cut = q in absurd (cc wrong)
      bare_moving f (inr (inr (inl q))) = let wrong : RemoveNode f ≡ place = q in absurd (cc wrong)
      bare_moving f (inr (inr (inr z))) = absurd z

  pub each_fits : (by : Session) (o : Op) (file : List ℕ) (r : Reply) → IsLed m by o file r
      → ArePut (led_effects o file r) × AreBare (led_effects o file r)
  each_fits by o file r h =
      each_led (λ es. ArePut es × AreBare es) m by o file r h (λ e i. absurd i, λ f i. absurd i)
      (λ dir name q rem. (λ e i. put_removal file dir name e i _, bare_removal file dir name rem))
      (λ sdir sname ddir dname q move. (
        put_moving file sdir sname ddir dname ((h.space.tree.agreeing sdir sname file).0 move.named),
        bare_moving file sdir sname ddir dname,
      ))
