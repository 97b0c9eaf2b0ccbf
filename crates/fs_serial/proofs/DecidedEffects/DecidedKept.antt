-- What is decided stays so while a client takes a step, while rows lapse, and while clocks go on.
use Rattle.std.proofs.Common.{◌≡◌, ◌==◌, not, ℕ, Bool, true, false, List, [], ◌∷◌, filter, cond, refl, sym, ap, ◌∙◌, subst}
use Rattle.std.specs.Prelude.{is_some}
use Rattle.fs_ident.specs.In.{In}
use Rattle.fs_ident.specs.declared.actor.Session.{Session}
use Rattle.fs_ident.proofs.Same.{itself, one_session}
use Rattle.fs_field.specs.declared.row.Row.{Row}
use Rattle.fs_msg.specs.declared.answer.Answer.{Answer}
use Rattle.fs_msg.specs.declared.item.Item.{Item}
use Rattle.fs_server.specs.declared.state.Server.{Server}
use Rattle.fs_client.specs.Acts.{act_plan}
use Rattle.fs_client.specs.Answers.{answer_plan}
use Rattle.fs_client.specs.Turns.{turn_plan}
use Rattle.fs_client.specs.declared.plan.Plan.{Plan}
use Rattle.fs_txn.specs.Grants.{Decided}
use Rattle.fs_serial.specs.Decided.{AllDecidedStand, DecidedFits, IsBehind}
use Rattle.fs_serial.specs.Exchange.{due, is_recall}
use Rattle.fs_serial.specs.Fresh.{IsMade}
use Rattle.fs_serial.specs.World.{CanCome, ClientEvent, Ends, World, after_client, after_plan, pushed, with_ends}
use Rattle.fs_serial.specs.World.ClientEvent.{Does, Turns, Hears}
use Rattle.fs_serial.proofs.OtherSessions.Gone.{made_pushed}
use Rattle.fs_serial.proofs.DecidedEffects.GuardRows.{kept_locks, stand_rows}
use Rattle.fs_serial.proofs.DecidedEffects.Underway.{going_same, locks_stay, place_same, stands_then}

-- the journal grows
pub stand_later : (ds : List Decided) (s : Server) (journal more : List Item) → ((id : List ℕ) → IsMade journal id → IsMade more id) → AllDecidedStand ds s journal → AllDecidedStand ds s more
stand_later ds s journal more grows all = record {
  records = all.records;
  stand = λ d i. let q = all.stand d i in stands_then s.rows s.rows s.records s.records _ _ journal more d (locks_stay d.by s.rows) (place_same _ d.effect) (going_same s.records s.records d.effect (λ f. refl)) grows q;
}

-- ## A client

ends_owed : (by : Session) (e : Ends) (ends : Session → Ends) (x : Session) → ((x.0 == by.0) ≡ true → due e.down ≡ [] → due (ends by).down ≡ []) → due (with_ends by e ends x).down ≡ [] → due (ends x).down ≡ []
ends_owed by e ends x own = of (by.0 == x.0) refl
  where
    of : (b : Bool) → (by.0 == x.0) ≡ b → due (let y : Ends = cond b e (ends x) in y).down ≡ [] → due (ends x).down ≡ []
    of true t h = let same : by ≡ x = one_session by x t in subst (λ y. due (ends y).down ≡ []) same (own (ap (λ (y : Session). y.0 == by.0) (sym same) ∙ itself by.0) h)
    of false t h = h

pub plan_fits : {N : Type 0} (by : Session) (rest : List Answer) (p : Plan N) (w : World) → ((d : Decided) → In d w.decided → (d.by.0 == by.0) ≡ true → due rest ≡ [] → due (w.ends by).down ≡ []) → DecidedFits w → DecidedFits (after_plan by rest p w)
plan_fits by rest p w owed f = record {
  all = stand_later w.decided w.server w.journal (pushed p.out.admitted w.journal) (made_pushed p.out.admitted w.journal) f.all;
  owed = λ d i e. f.owed d i (ends_owed by _ w.ends d.by (λ t n. owed d i t n) e);
}

heard_due : (a : Answer) (rest : List Answer) (b : Bool) → is_recall a ≡ b → b ≡ true → due rest ≡ [] → due (a ∷ rest) ≡ []
heard_due a rest b e t h = ap (λ c. cond (not c) (a ∷ due rest) (due rest)) (e ∙ t) ∙ h

pub client_fits : (now : ℕ) (w : World) (by : Session) (e : ClientEvent) → CanCome by e w.ends → IsBehind w by e → DecidedFits w → DecidedFits (after_client by now e w)
client_fits now w by (Does o) can behind f = plan_fits by (w.ends by).down (act_plan (w.ends by).client now o) w (λ d i t n. n) f
client_fits now w by Turns can behind f = plan_fits by (w.ends by).down (turn_plan (w.ends by).client now) w (λ d i t n. n) f
client_fits now w by (Hears from a rest) can behind f = plan_fits by rest (answer_plan (w.ends by).client now from a) w (λ d i t n. subst (λ xs. due xs ≡ []) (sym can.0) (recalled d i t n (is_recall a) refl)) f
  where
    recalled : (d : Decided) → In d w.decided → (d.by.0 == by.0) ≡ true → due rest ≡ [] → (b : Bool) → is_recall a ≡ b → due (a ∷ rest) ≡ []
    recalled d i t n true e = heard_due a rest true e refl n
    recalled d i t n false e = let wrong : true ≡ false = sym t ∙ behind e d i in absurd (cc)

-- ## Rows and clocks

-- locked rows do not lapse
pub lapse_fits : (w : World) (keep : Row → Bool) → ((r : Row) → In r w.server.rows → is_some r.lock ≡ true → keep r ≡ true) → DecidedFits w → DecidedFits (record w { server = record w.server { rows = filter keep w.server.rows } })
lapse_fits w keep locked f = record { all = stand_rows w.decided w.server w.journal (filter keep w.server.rows) (λ d i. kept_locks d.by keep w.server.rows (λ r j own l. locked r j l)) f.all; owed = f.owed }

pub last_fits : (last : ℕ) (w : World) → DecidedFits w → DecidedFits (record w { server = record w.server { last = last } })
last_fits last w f = record { all = record { records = f.all.records; stand = f.all.stand }; owed = f.owed }
