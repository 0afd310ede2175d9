use Rattle.list_laws.proofs.Ascending.{ascends-append}
use Rattle.list_laws.proofs.Decided.{listing_of_decided}
use Rattle.list_laws.proofs.Inserting.{union_insert}
use Rattle.list_laws.proofs.InOrder.{in_order_has, in_order_had, in_order_ascends, in_order_union, insert_aside}
use Rattle.list_laws.proofs.Places.{sorted_insert_key}
use Rattle.list_laws.proofs.of_orders.Goals as goal

pub returns-clause-insertions : goal.returns-clause-insertions
returns-clause-insertions g c o exact xs x = union_insert o exact xs x

pub returns-clause-ascend : goal.returns-clause-ascend
returns-clause-ascend g c o xs x s = sorted_insert_key o xs x s

pub returns-clause-parts : goal.returns-clause-parts
returns-clause-parts g c xs ys s t h = ascends-append _ xs ys s t h

pub returns-clause-decided : goal.returns-clause-decided
returns-clause-decided g c o exact decide all has = listing_of_decided o exact decide all has

pub returns-clause-in_order : goal.returns-clause-in_order
returns-clause-in_order g c o xs = in_order_ascends o xs

pub returns-clause-have_all : goal.returns-clause-have_all
returns-clause-have_all g c o exact xs x = (in_order_had o exact xs x, in_order_has o exact xs x)

pub returns-clause-unions : goal.returns-clause-unions
returns-clause-unions g c o exact xs ys all u s = in_order_union o exact xs ys all u s

pub returns-clause-aside : goal.returns-clause-aside
returns-clause-aside g c o exact xs ys k = insert_aside o exact xs ys k
