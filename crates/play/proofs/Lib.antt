mod WordsSoFar
