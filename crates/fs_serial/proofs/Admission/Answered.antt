-- An entry whose rows all stand gets the reply that it was answered with.
use Rattle.std.proofs.Common.{◌≡◌, ℕ, not, true, List, refl, sym, ap, ◌∙◌, subst}
use Rattle.std.specs.Prelude.{Option, Some, None}
use Rattle.std.specs.FinMap.{get}
use Rattle.fs_ident.specs.In.{In}
use Rattle.fs_ident.specs.declared.actor.Session.{Session}
use Rattle.fs_ident.specs.declared.kind.Kind.{Kind}
use Rattle.fs_ident.specs.declared.kind.Kind.TheVariants.{File, Dir}
use Rattle.fs_field.specs.declared.asked.Need.{Need}
use Rattle.fs_field.specs.declared.used.Use.{Use}
use Rattle.fs_model.specs.declared.node.Node.{Node}
use Rattle.fs_model.specs.declared.op.Op.{Op}
use Rattle.fs_model.specs.declared.op.Op.TheVariants as op
use Rattle.fs_model.specs.declared.reply.Reply.{Reply}
use Rattle.fs_model.specs.declared.reply.Reply.TheVariants as reply
use Rattle.fs_model.specs.Namespace.{NodeMap}
use Rattle.fs_model.specs.Sound.{kind_of, child_of, IsSound}
use Rattle.fs_model.specs.Step.{step}
use Rattle.fs_model.proofs.SoundRuns.{step_sound}
use Rattle.fs_msg.specs.Journal.{is_reap}
use Rattle.fs_msg.specs.declared.entry.Entry.{Entry}
use Rattle.fs_record.specs.Effects.{effects_of, tells_its_effects}
use Rattle.fs_record.specs.Records.{RecordMap, nodes_of}
use Rattle.fs_record.specs.ValueOf.{value_of}
use Rattle.fs_record.proofs.Stepping.{effects_lead}
use Rattle.fs_record.proofs.AllApplied.{after_all_kept}
use Rattle.fs_record.specs.Applied.{records_after_all}
use Rattle.fs_view.specs.Laws.{IsNewWhereMade}
use Rattle.fs_view.specs.Script.{unless, no_dir, taken_name, made_reply, ask_place, new_file}
use Rattle.fs_view.specs.Walk.{walk, known_in, always}
use Rattle.fs_view.proofs.Replies.{reply_along, replies}
use Rattle.fs_serial.specs.Pending.{IsAnswer, IsCovered, IsEntry, NamesItsFile}
use Rattle.fs_serial.specs.Serial.{AreSound}
use Rattle.fs_serial.proofs.Lists.Journals.{known_nodes, nodes_all}

-- a create that comes to Made in a space names a file that does not live there
new_absent : (m : NodeMap) (id : List ℕ) (o : Option Node) → get m id ≡ o → made_reply (Some (kind_of o)) ≡ reply.Made → get m id ≡ None
new_absent m id None e h = e
new_absent m id (Some n) e h = absurd (cc)

place_absent : (m : NodeMap) (s : Session) (dir id : List ℕ) (c : Option (List ℕ)) → reply_along m s (unless (taken_name (Some c)) (new_file dir (Some id))) ≡ Some reply.Made → get m id ≡ None
place_absent m s dir id (Some x) h = absurd (cc)
place_absent m s dir id None h = let q : made_reply (Some (kind_of (get m id))) ≡ reply.Made = cc in new_absent m id (get m id) refl q

dir_absent : (m : NodeMap) (s : Session) (dir name id : List ℕ) (k : Option Kind) → reply_along m s (unless (no_dir (Some k)) (ask_place dir name (Some id))) ≡ Some reply.Made → get m id ≡ None
dir_absent m s dir name id None h = absurd (cc)
dir_absent m s dir name id (Some File) h = absurd (cc)
dir_absent m s dir name id (Some Dir) h = place_absent m s dir id (child_of (get m dir) name) h

new_where_made : (m : NodeMap) (s : Session) (uses : List Use) (o : Op) (r : Reply) → NamesItsFile uses o r → (walk (known_in m s) always o).reply ≡ Some r → IsNewWhereMade m o r
new_where_made m s uses (op.Create dir name kind (Some id)) reply.Made n h = (n.child, dir_absent m s dir name id (kind_of (get m dir)) h)
new_where_made m s uses (op.Create dir name kind None) reply.Made n h = n
new_where_made m s uses o r n h = tt

pub no_reap : (o : Op) → tells_its_effects o ≡ true → not (is_reap o) ≡ true
no_reap (op.Reap file session) h = absurd (cc)
no_reap o h = refl

module _ (m : RecordMap) (by : Session) (e : Entry) (plain : IsEntry e) (right : IsAnswer (value_of m by) e) where
  walked : (walk (known_in (nodes_of m) by) always e.op).reply ≡ Some e.reply
  walked = ap (λ k. (walk k always e.op).reply) (sym (known_nodes m by)) ∙ right.reply

  -- its reply is the namespace's
  pub answered : (step (nodes_of m) by e.op).reply ≡ e.reply
  answered = replies (nodes_of m) by e.op e.reply plain.plain (new_where_made (nodes_of m) by e.uses e.op e.reply plain.named walked) walked

  -- and its items in that space are covered
  pub covered_there : (n : Need) → In n (walk (known_in (nodes_of m) by) always e.op).items → IsCovered e.uses n
  covered_there n i = right.covered n (subst (λ k. In n (walk k always e.op).items) (sym (known_nodes m by)) i)

  -- its effects lead to the namespace's next space
  pub leads_there : nodes_of (records_after_all m (effects_of by e.op e.reply)) ≡ (step (nodes_of m) by e.op).nodes
  leads_there = nodes_all m (effects_of by e.op e.reply) ∙ effects_lead (nodes_of m) by e.op e.reply plain.plain answered

  -- which is sound
  pub sound_there : AreSound m → AreSound (records_after_all m (effects_of by e.op e.reply))
  sound_there s = record {
    space = subst IsSound (sym leads_there) (step_sound (nodes_of m) by e.op s.space plain.access);
    records = after_all_kept m (effects_of by e.op e.reply) s.records;
  }
