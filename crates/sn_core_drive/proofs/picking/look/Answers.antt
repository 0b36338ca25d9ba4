use Rattle.sn_core_drive.proofs.picking.look.Goals as goal

pub returns : goal.returns
returns g c =
    record {
      packet = c.enabled.ensures;
      read_outs = c.read_outs.ensures;
      few_read_outs = c.read_outs.type_inv;
      deliveries = c.deliveries.ensures;
      few_deliveries = c.deliveries.type_inv;
      close = c.enabled-2.ensures;
      install = c.enabled-3.ensures;
    }
