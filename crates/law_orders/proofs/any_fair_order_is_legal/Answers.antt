use Rattle.law_orders.proofs.any_fair_order_is_legal.Goals as goal

pub returns : goal.returns
returns c w m ls opening fair =
    let leads = c.any_fair_order_leads_on.ensures w m ls opening fair in
    record { run = leads.run; is_run = leads.is_run; heard_all = leads.heard_all }
