mod PrintTurns
