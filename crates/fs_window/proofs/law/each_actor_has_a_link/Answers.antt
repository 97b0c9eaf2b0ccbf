use Rattle.fs_window.proofs.Actors.{link_of_actor, links_of_actors, sent_to_actor}
use Rattle.fs_window.proofs.law.each_actor_has_a_link.Goals as goal

pub returns-clause-one : goal.returns-clause-one
returns-clause-one c = link_of_actor

pub returns-clause-all : goal.returns-clause-all
returns-clause-all c = links_of_actors

pub returns-clause-sent : goal.returns-clause-sent
returns-clause-sent c = sent_to_actor
