use Rattle.mysql_show.proofs.Objects.{lists-in-turn}
use Rattle.mysql_show.proofs.json.put_lists.Goals as goal

pub returns : goal.returns
returns c = record {
  ok = lists-in-turn c.args.fields.now _ _ _ _ _ _ _ _
      c.in_ok-put_list.ensures.ok c.in_ok-put_list-2.ensures.ok c.in_ok-put_list-3.ensures.ok
      c.in_ok-put_list-4.ensures.ok c.in_ok-put_list-5.ensures.ok c.in_ok-put_list-6.ensures.ok
      c.in_ok-put_list-7.ensures.ok;
}
